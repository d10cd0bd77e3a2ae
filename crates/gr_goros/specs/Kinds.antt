-- Kinds of steps that reach no further than their goroutine.
use Rattle.gr_base.specs.declared.kinds.Kind.{Kind}
use Rattle.gr_base.specs.declared.kinds.Kind.TheVariants as kinds
use Rattle.gr_goros.specs.declared.kinds.LocalKind.{LocalKind}
use Rattle.gr_goros.specs.declared.kinds.LocalKind.TheVariants as locals

abbrev pub kind_of : LocalKind → Kind
kind_of locals.Pure = kinds.Pure
kind_of locals.Call = kinds.Call
kind_of locals.Return = kinds.Return
kind_of locals.Length = kinds.Length
kind_of (locals.Fault fault) = kinds.Fault fault
