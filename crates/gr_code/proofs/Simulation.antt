-- An instruction that fits a point does there what the rules do in the point's frame, and goes on alike.
use Rattle.std.proofs.Common.{◌≡◌, ℕ, Bool, true, false, List, [], ◌∷◌, Option, Some, None, refl, sym, ap}
use Rattle.std.specs.Prelude.{if◌then◌else◌}
use Rattle.gr_base.specs.declared.values.Value.{Value}
use Rattle.gr_rules.specs.Outcomes.{Outcome, gives, ◌>>=◌}
use Rattle.gr_rules.specs.Operators.{operate}
use Rattle.gr_rules.specs.Operands.{Variable, one}
use Rattle.gr_rules.specs.Evaluation.{Variables, evaluate}
use Rattle.gr_rules.specs.Points.{Assign, AssignReceive, Update, Eval, Close, Print, Send, Go, Return, GoOn, Astray, Test, Range, Turn, Point, at, point_after}
use Rattle.gr_rules.specs.Frames.{Frame, assigned}
use Rattle.gr_rules.specs.Deeds.{Deed, Moves, as_channel, as_truth, only, texts, work_of, past_statement}
use Rattle.gr_code.specs.Filling.{Temporaries, fill, fill_all, fill_rest, fill_point, ClearAll}
use Rattle.gr_code.specs.Instructions.{Assigns, AssignsReceived, Updates, ClosesChannel, PrintsLine, Sends, StartsFunction, Returns, GoesOn, Fails, Tests, Ranges, Turns, Instruction, Spot, Doing, perform, on_past_action}
use Rattle.gr_code.specs.Code.{Meanings, Means, Continues, point_filled, is_decision, FitArms, no_arm, default_arm, send_arm, receive_arm, Fits, frame_at, Holds, deed_of, IfGiven, HasClause, Simulates}
use Rattle.gr_code.specs.Code as code
use Rattle.gr_code.specs.Bounds.{NoneBelow}
use Rattle.gr_code.proofs.FrameSimulation.{through, part_simulates, decision_simulates, plain_simulates, comes, select_simulates}

module _ (n : ℕ) (means : Meanings) (function : ℕ) (s : Spot) (all : Variables) (holds : Holds s all) (none : NoneBelow n s.temporaries) where
  abbrev ts : Temporaries
  ts = s.temporaries

  abbrev to : Point → Frame
  to p = record { function = function; variables = s.variables; point = p }

  abbrev frame : Point → Frame
  frame p = to (fill_point ts p)

  abbrev shown : Doing → Outcome Deed
  shown d = gives (deed_of means function d)

  abbrev stands : Spot → Outcome Frame
  stands t = gives (frame_at means function t)

  pub simulates : (p : Point) (i : Instruction) → Fits n means p i → ClearAll ts p.operands → Simulates means function s all i (frame p)
  simulates _ _ (code.part place work es rest ask k slot on asks plain goes) clear = part_simulates n means function s all holds none (at place work es rest) ask k slot on asks plain clear (λ v. goes ts v none clear)
  simulates _ _ (code.decision place work es rest op left k slot settled right asks goes) clear = decision_simulates n means function s all holds none (at place work es rest) op left k slot settled right asks clear (λ v. goes ts v none clear)
  simulates _ _ (code.assignment place targets es rest on plain continues) clear =
      plain_simulates n means function s all holds none (at place (Assign targets) es rest) (Assigns targets on) plain clear (record {
        falls = λ es. refl;
        works = λ xs. through (assigned targets xs s.variables) _ _ _
            (λ held. ap (λ q. gives (Moves (record { function = function; variables = held; point = q }))) (comes n means function s all holds none es rest on continues clear));
        goes = tt;
        gets = λ got. refl;
      })
  simulates _ _ (code.assignment_received place x y initial es rest value ok on plain goes) clear =
      plain_simulates n means function s all holds none (at place (AssignReceive x y initial) es rest) (AssignsReceived initial value ok on) plain clear (record {
        falls = λ es. refl;
        works = λ xs. through (only xs >>= as_channel) _ _ _ (λ c. refl);
        goes = tt;
        gets = λ got. elim got as (λ got. past_statement (frame (at place (AssignReceive x y initial) es rest)) (AssignReceive x y initial) (fill_all ts es) got
            ≡ (on_past_action s (AssignsReceived initial value ok on) got >>= stands)) [ Some got ↦ ap (λ q. gives (to q)) (sym (goes ts got none clear).0) | None ↦ refl ];
      })
  simulates _ _ (code.update place x op es rest on plain continues) clear =
      plain_simulates n means function s all holds none (at place (Update x op) es rest) (Updates x op on) plain clear (record {
        falls = λ es. refl;
        works = λ xs. through (evaluate s.variables (Variable x) >>= λ u. only xs >>= operate op u) _ _ _
            (λ w. through (assigned (Some x ∷ []) (w ∷ []) s.variables) _ _ _
            (λ held. ap (λ q. gives (Moves (record { function = function; variables = held; point = q }))) (comes n means function s all holds none es rest on continues clear)));
        goes = tt;
        gets = λ got. refl;
      })
  simulates _ _ (code.expression place es rest plain) clear =
      plain_simulates n means function s all holds none (at place Eval es rest) Fails plain clear (record { falls = λ es. refl; works = λ xs. refl; goes = tt; gets = λ got. refl })
  simulates _ _ (code.closing_channel place es rest on plain continues) clear =
      plain_simulates n means function s all holds none (at place Close es rest) (ClosesChannel on) plain clear (record {
        falls = λ es. refl;
        works = λ xs. through (only xs >>= as_channel) _ _ _ (λ c. refl);
        goes = ap to (comes n means function s all holds none es rest on continues clear);
        gets = λ got. refl;
      })
  simulates _ _ (code.printing place pieces es rest on plain continues) clear =
      plain_simulates n means function s all holds none (at place (Print pieces) es rest) (PrintsLine pieces on) plain clear (record {
        falls = λ es. refl;
        works = λ xs. through (texts pieces xs) _ _ _ (λ c. refl);
        goes = ap to (comes n means function s all holds none es rest on continues clear);
        gets = λ got. refl;
      })
  simulates _ _ (code.sending place es rest on plain continues) clear =
      plain_simulates n means function s all holds none (at place Send es rest) (Sends on) plain clear (record {
        falls = λ es. refl;
        works = sends;
        goes = tt;
        gets = λ got. elim got as (λ got. past_statement (frame (at place Send es rest)) Send (fill_all ts es) got ≡ (on_past_action s (Sends on) got >>= stands))
            [ None ↦ ap (λ q. gives (to q)) (comes n means function s all holds none es rest on continues clear) | Some got ↦ refl ];
      })
    where
      sends : (xs : List Value) → work_of (frame (at place Send es rest)) Send xs ≡ (perform s (Sends on) xs >>= shown)
      sends [] = refl
      sends (c ∷ []) = refl
      sends (c ∷ v ∷ []) = through (as_channel c) _ _ _ (λ c. refl)
      sends (c ∷ v ∷ w ∷ xs) = refl
  simulates _ _ (code.starting place f es rest on plain continues) clear =
      plain_simulates n means function s all holds none (at place (Go f) es rest) (StartsFunction f on) plain clear (record {
        falls = λ es. refl;
        works = λ xs. refl;
        goes = ap to (comes n means function s all holds none es rest on continues clear);
        gets = λ got. refl;
      })
  simulates _ _ (code.returning place es rest plain) clear =
      plain_simulates n means function s all holds none (at place Return es rest) Returns plain clear (record { falls = λ es. refl; works = returns; goes = tt; gets = λ got. refl })
    where
      returns : (xs : List Value) → work_of (frame (at place Return es rest)) Return xs ≡ (perform s Returns xs >>= shown)
      returns [] = refl
      returns (v ∷ []) = refl
      returns (v ∷ w ∷ xs) = refl
  simulates _ _ (code.going_on place es rest on plain continues) clear =
      plain_simulates n means function s all holds none (at place GoOn es rest) (GoesOn on) plain clear (record {
        falls = λ es. refl;
        works = λ xs. ap (λ q. gives (Moves (to q))) (comes n means function s all holds none es rest on continues clear);
        goes = tt;
        gets = λ got. refl;
      })
  simulates _ _ (code.astray place es rest plain) clear =
      plain_simulates n means function s all holds none (at place Astray es rest) Fails plain clear (record { falls = λ es. refl; works = λ xs. refl; goes = tt; gets = λ got. refl })
  simulates _ _ (code.test place there es rest holds_on fails_on plain continues_there continues) clear =
      plain_simulates n means function s all holds none (at place (Test there) es rest) (Tests holds_on fails_on) plain clear (record {
        falls = λ es. refl;
        works = λ xs. through (only xs >>= as_truth) _ _ _ (λ b. ap (λ q. gives (Moves (to q))) (sides b));
        goes = tt;
        gets = λ got. refl;
      })
    where
      sides : (b : Bool) → point_after (if b then fill_rest ts there else fill_rest ts rest) ≡ fill_point ts (means (if b then holds_on else fails_on))
      sides true = comes n means function s all holds none es there holds_on continues_there clear
      sides false = comes n means function s all holds none es rest fails_on continues clear
  simulates _ _ (code.range place target body es rest slot on plain goes) clear =
      plain_simulates n means function s all holds none (at place (Range target body) es rest) (Ranges slot on) plain clear (record {
        falls = λ es. refl;
        works = λ xs. through (only xs) _ _ _ (λ c. ap (λ q. gives (Moves (to q))) (sym (goes ts c none clear).0));
        goes = tt;
        gets = λ got. refl;
      })
  simulates _ _ (code.range_turn place target body channel rest slot into after plain turns leaves) clear =
      plain_simulates n means function s all holds none (at place (Turn target body) (one channel) rest) (Turns slot into after) plain clear (record {
        falls = λ es. refl;
        works = λ xs. through (only xs >>= as_channel) _ _ _ (λ c. refl);
        goes = tt;
        gets = gets;
      })
    where
      gets : (got : Option (Value × Bool)) → past_statement (frame (at place (Turn target body) (one channel) rest)) (Turn target body) (one (fill ts channel)) got
          ≡ (on_past_action s (Turns slot into after) got >>= stands)
      gets None = refl
      gets (Some (v, true)) = ap (λ q. gives (to q)) (sym (turns ts v none clear).0)
      gets (Some (v, false)) = ap (λ q. gives (to q)) (sym (leaves ts none clear).0)
  simulates _ _ (code.select place cases es rest arms plain fit) clear = select_simulates n means function s all holds none place cases es rest clear arms plain fit
