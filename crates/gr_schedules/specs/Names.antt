-- The goroutines and the channels that may be there, by the records of a log.
use Rattle.std.specs.Prelude.{◌≡◌, ℕ, List, [], ◌∷◌, ◌++◌, Some}
use Rattle.std.specs.Option.{option_to_list}
use Rattle.gr_base.specs.declared.names.ChName.{ChName}
use Rattle.gr_causal.specs.Sequences.{In}
use Rattle.gr_code.specs.Goroutines.{CodeGoroutine}
use Rattle.gr_channels.specs.Channels.{Content}
use Rattle.gr_refine.specs.Contents.{Contents}
use Rattle.gr_record.specs.declared.record.Record.{Record}
use Rattle.gr_record.specs.Records.{begun_by, made_by}

-- those that these steps started, and the channels that they made
abbrev pub goroutines_begun : List Record → List (List ℕ)
goroutines_begun [] = []
goroutines_begun (r ∷ rs) = option_to_list (begun_by r.change) ++ goroutines_begun rs

abbrev pub channels_made : List Record → List ChName
channels_made [] = []
channels_made (r ∷ rs) = option_to_list (made_by r.change) ++ channels_made rs

-- these are all the goroutines and channels that are there
pub record AreAll (s : Contents) (goroutines : List (List ℕ)) (channels : List ChName) : Type 0 where
  pub each_goroutine : (n : List ℕ) (g : CodeGoroutine) → s.goroutines n ≡ Some g → In n goroutines
  pub each_channel : (c : ChName) (x : Content) → s.channels c ≡ Some x → In c channels
