-- What a change of a goroutine replaced, as records keep it.
use Rattle.gr_goros.specs.declared.undo.Spot.{Spot}
use Rattle.gr_goros.specs.declared.undo.Former.{Former}
use Rattle.gr_goros.specs.declared.undo.Former.TheVariants as former
use Rattle.gr_goros.specs.declared.undo.GoUndo.{GoUndo}
use Rattle.gr_goros.specs.declared.undo.GoUndo.TheVariants as undos
use Rattle.gr_goros.specs.declared.wait.Status.TheVariants as statuses
use Rattle.gr_goros.specs.declared.kept.How.{How}
use Rattle.gr_goros.specs.declared.kept.How.TheVariants.{Went, Made}
use Rattle.gr_goros.specs.declared.kept.Packed.{Packed}
use Rattle.gr_goros.specs.declared.kept.Packed.TheVariants as packed

-- a frame that stood there went on or made a channel, and this was in its cells
abbrev pub in_frame : How → Spot → Former → GoUndo
in_frame Went s cells = undos.Went s.function (record { number = s.number; cells = cells })
in_frame Made s cells = undos.Made s.function (record { number = s.number; cells = cells })

abbrev pub unpacked : Packed → GoUndo
unpacked (packed.Same how s) = in_frame how s former.Same
unpacked (packed.Nothing how s k) = in_frame how s (former.Nothing k)
unpacked (packed.Int how s k n) = in_frame how s (former.Int k n)
unpacked (packed.Bool how b s k) = in_frame how s (former.Bool k b)
unpacked (packed.Unit how s k) = in_frame how s (former.Unit k)
unpacked (packed.Nil how s k) = in_frame how s (former.Nil k)
unpacked (packed.Channel how s k name) = in_frame how s (former.Channel k name)
unpacked (packed.IntAndBool how b s k n) = in_frame how s (former.IntAndBool b k n)
unpacked (packed.Each how s written) = in_frame how s (former.Each written)
unpacked (packed.Printed s) = undos.Printed s
unpacked (packed.Entered s) = undos.Entered s
unpacked (packed.Left left) = undos.Left left
unpacked (packed.Began s) = undos.Began s
unpacked (packed.Met met) = undos.Met met
unpacked (packed.Parked s) = undos.Parked s
unpacked (packed.Finished frame) = undos.Finished frame
unpacked (packed.Faulted s) = undos.Faulted s
unpacked packed.WasReady = undos.Retried statuses.Ready
unpacked (packed.WasSending c) = undos.Retried (statuses.Sending c)
unpacked (packed.WasReceiving c) = undos.Retried (statuses.Receiving c)
unpacked (packed.WasWaiting ws) = undos.Retried (statuses.Waiting ws)
unpacked packed.WasFinished = undos.Retried statuses.Finished
