-- JSON of goroutines with the lines of their frames.
use Rattle.std.specs.Prelude.{ℕ, [], ◌∷◌, codes}
use Rattle.serde_json.specs.Data.{Data, string}
use Rattle.gr_json.specs.Parts.{text, count, go_data, list, fields}
use Rattle.gr_json.specs.Replies.{status_name, variable_data}
use Rattle.gr_queries.specs.Stacks.{Stack}
use Rattle.gr_rules.specs.Tells.{FrameShown}

abbrev pub stack_frame_data : FrameShown × ℕ → Data
stack_frame_data f = fields (
    (codes "function", text f.0.function)
    ∷ (codes "line", count f.1)
    ∷ (codes "variables", list variable_data f.0.variables)
    ∷ [])

abbrev pub stack_data : Stack → Data
stack_data s = fields (
    (codes "frames", list stack_frame_data s.frames)
    ∷ (codes "goroutine", go_data s.go)
    ∷ (codes "status", string (status_name s.status))
    ∷ (codes "steps", count s.steps)
    ∷ [])
