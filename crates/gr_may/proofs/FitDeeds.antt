-- What the next step of a frame within bounds asks for is within them.
use Rattle.std.proofs.Common.{◌≡◌, ℕ, if◌then◌else◌, List, [], ◌∷◌, Option, Some, None, true, refl, sym, subst}
use Rattle.gr_base.specs.declared.names.ChName.{ChName}
use Rattle.gr_base.specs.declared.values.Value.{Value}
use Rattle.gr_base.specs.declared.values.Value.TheVariants.{Int, Bool as Truth, Unit as Empty, Chan}
use Rattle.gr_program.specs.Programs.{Cases, no_case, default_case, send_case, receive_case, Program}
use Rattle.gr_rules.specs.Outcomes.{◌>>=◌}
use Rattle.gr_rules.specs.Operands.{Operand, Variable, Operands, nothing, also}
use Rattle.gr_rules.specs.Parts as parts
use Rattle.gr_rules.specs.Parts.{Ask, Calls, CountsItems, CountsPlaces, Decides, Next, Plain, Asks, next_of}
use Rattle.gr_rules.specs.Evaluation.{evaluate, evaluate_all}
use Rattle.gr_rules.specs.Points.{Work, Assign, AssignReceive, Update, Eval, Close, Print, Send, Go, Return, GoOn, Astray, Test, Range, Turn, Select}
use Rattle.gr_rules.specs.Frames.{Frame}
use Rattle.gr_rules.specs.Deeds.{Communication, Sending, Receiving, Otherwise, Deed, Moves, Prints, Enters, Leaves, Starts, Makes, TakesLen, TakesCap, Closes, Communicates, Chooses, as_channel, as_int, as_truth, only, texts, clauses_of, work_of, statement_of, deed_by, deed}
use Rattle.gr_may.specs.Uses.{Use, to_send, to_receive, to_close, to_count, to_share, Uses, no_use, Usage, MayUse, Shared, target}
use Rattle.gr_may.specs.Uses as bounds
use Rattle.gr_may.specs.Demands.{parameter_uses, clause_uses, OperandFits, OperandsFit, work_uses, WorkFits, RestFits}
use Rattle.gr_may.specs.Covers.{Calling, AwaitsResultOf, FrameFits}
use Rattle.gr_may.proofs.Given.{IfGives, given, stray, then_gives, in_any_case, gives_less, if_either}
use Rattle.gr_may.proofs.FitValues.{only_self, no_channel_may, literal_shared, sent_shared, operate_plain, ValuesFit, evaluate_fits, evaluate_all_fits}
use Rattle.gr_may.proofs.FitParts.{NextFits, plain, asks, nexts_fit}
use Rattle.gr_may.proofs.FitPoints.{after_fits}
use Rattle.gr_may.proofs.FitFrames.{On, assigned_holds, moved_on, goes_on_fits, goes_on_with, filled_on}

-- whoever is sent a channel may use it in every way
abbrev pub SharesAll : Usage → Type 0
SharesAll usage = (n : List ℕ) (c : ChName) → usage.permits n c to_share ≡ true → Shared usage (Chan (Some c))

module _ (usage : Usage) (n : List ℕ) where
  -- the goroutine may use the channel so, unless it is nil
  abbrev pub MayDo : Use → Option ChName → Type 0
  MayDo u None = Unit {0}
  MayDo u (Some c) = usage.permits n c u ≡ true

  abbrev pub CommunicationFits : Communication → Type 0
  CommunicationFits (Sending c value) = MayDo to_send c × IfGives (Shared usage) value
  CommunicationFits (Receiving c initial) = MayDo to_receive c × Shared usage initial
  CommunicationFits Otherwise = Unit {0}

  abbrev pub ClausesFit : List Communication → Type 0
  ClausesFit [] = Unit {0}
  ClausesFit (x ∷ xs) = CommunicationFits x × ClausesFit xs

  channel_may : (u : Use) (v : Value) → MayUse usage n (bounds.only u) v → IfGives (MayDo u) (as_channel v)
  channel_may u (Int i) h = stray
  channel_may u (Truth b) h = stray
  channel_may u Empty h = stray
  channel_may u (Chan None) h = given tt
  channel_may u (Chan (Some c)) h = given (h u (only_self u))

  only_fits : (b : Uses) (vs : List Value) → ValuesFit usage n (b ∷ []) vs → IfGives (MayUse usage n b) (only vs)
  only_fits b [] h = stray
  only_fits b (v ∷ []) h = given h.0
  only_fits b (v ∷ w ∷ vs) h = stray

  only_channel : (u : Use) (vs : List Value) → ValuesFit usage n (bounds.only u ∷ []) vs → IfGives (MayDo u) (only vs >>= as_channel)
  only_channel u vs h = then_gives (only_fits (bounds.only u) vs h) (λ v m. channel_may u v m)

module _ (p : Program) (usage : Usage) (n : List ℕ) (sharing : SharesAll usage) (f : Frame) (h : FrameFits p usage n f) where
  abbrev Fits : Uses → Operand → Type 0
  Fits b a = OperandFits p usage n h.uses f.function b a

  abbrev AllFit : List Uses → Operands → Type 0
  AllFit bs es = OperandsFit p usage n h.uses f.function bs es

  abbrev pub DeedFits : Deed → Type 0
  DeedFits (Moves on) = On p usage n f on
  DeedFits (Prints line) = Unit {0}
  DeedFits (Enters k vs) = AwaitsResultOf k f × ValuesFit usage n (parameter_uses p usage k) vs
  DeedFits (Leaves v) = MayUse usage n (usage.results f.function) v
  DeedFits (Starts k vs) = ValuesFit usage n (parameter_uses p usage k) vs
  DeedFits (Makes size) = Unit {0}
  DeedFits (TakesLen c) = MayDo usage n to_count c
  DeedFits (TakesCap c) = Unit {0}
  DeedFits (Closes c) = MayDo usage n to_close c
  DeedFits (Communicates x) = CommunicationFits usage n x
  DeedFits (Chooses xs) = ClausesFit usage n xs

  evaluates : (b : Uses) (a : Operand) → Fits b a → IfGives (MayUse usage n b) (evaluate f.variables a)
  evaluates b a o = evaluate_fits usage n p h.uses f.function f.variables h.held b a o

  gives_channel : (u : Use) (a : Operand) → Fits (bounds.only u) a → IfGives (MayDo usage n u) (evaluate f.variables a >>= as_channel)
  gives_channel u a o = then_gives (evaluates (bounds.only u) a o) (λ v m. channel_may usage n u v m)

  evaluate_every : (bs : List Uses) (es : Operands) → AllFit bs es → IfGives (ValuesFit usage n bs) (evaluate_all f.variables es)
  evaluate_every bs es o = evaluate_all_fits usage n p h.uses f.function f.variables h.held bs es o

  clauses_fit : (cases : Cases) (es : Operands) → AllFit (clause_uses cases) es → IfGives (ClausesFit usage n) (clauses_of f cases es)
  clauses_fit no_case es o = given tt
  clauses_fit (default_case body others) es o = then_gives (clauses_fit others es o) (λ xs c. given (tt, c))
  clauses_fit (send_case channel value body others) (also c (also e es)) o =
      then_gives (gives_channel to_send c o.0) (λ c m. then_gives (clauses_fit others es o.1.1) (λ xs k.
      given ((m, gives_less (λ v s. sent_shared usage n v sharing s) (evaluates (bounds.only to_share) e o.1.0)), k)))
  clauses_fit (send_case channel value body others) (also c nothing) o = stray
  clauses_fit (send_case channel value body others) nothing o = stray
  clauses_fit (receive_case targets channel initial body others) (also c es) o =
      then_gives (gives_channel to_receive c o.0) (λ c m. then_gives (clauses_fit others es o.1) (λ xs k. given ((m, literal_shared usage initial), k)))
  clauses_fit (receive_case targets channel initial body others) nothing o = stray

  abbrev HereFit : Operands → Type 0
  HereFit es = AllFit (work_uses p usage n h.uses f.function f.point.work) es

  part_fits : (x : Next Operands) → next_of f.point.operands ≡ x → NextFits p usage n h.uses f.function HereFit x → IfGives DeedFits (deed_by f x)
  part_fits (Asks (Calls k arguments) with) e (asks a o) =
      then_gives (evaluate_every (parameter_uses p usage k) arguments a) (λ vs m. given (subst (Calling k) (sym e) refl, m))
  part_fits (Asks (parts.Receives c initial) with) e (asks a o) = then_gives (gives_channel to_receive c a.0) (λ c m. given (m, a.1))
  part_fits (Asks (parts.Makes size) with) e (asks a o) = then_gives (in_any_case (evaluate f.variables size >>= as_int)) (λ i m. given tt)
  part_fits (Asks (CountsItems c) with) e (asks a o) = then_gives (gives_channel to_count c a) (λ c m. given m)
  part_fits (Asks (CountsPlaces c) with) e (asks a o) = then_gives (in_any_case (evaluate f.variables c >>= as_channel)) (λ c m. given tt)
  part_fits (Asks (Decides op left) with) e (asks a o) =
      then_gives (in_any_case (evaluate f.variables left)) (λ v m. given (filled_on p usage n f h (with v) (o v tt)))
  part_fits Plain e plain = by_work f.point.work h.stands.work h.stands.operands
    where
      work_done : (work : Work) (vs : List Value) → WorkFits p usage n h.uses f.function work
          → ValuesFit usage n (work_uses p usage n h.uses f.function work) vs → IfGives DeedFits (work_of f work vs)
      work_done (Assign targets) vs w m = then_gives (assigned_holds p usage n h.uses targets vs f.variables m h.held) (λ held o. given (goes_on_with p usage n f h held o))
      work_done (AssignReceive value ok initial) vs w m = then_gives (only_channel usage n to_receive vs m) (λ c m. given (m, w))
      work_done (Update x op) vs w m =
          then_gives (then_gives (in_any_case (evaluate f.variables (Variable x))) (λ u a. then_gives (in_any_case (only vs)) (λ v b. operate_plain op u v)))
          (λ w a. then_gives (assigned_holds p usage n h.uses (Some x ∷ []) (w ∷ []) f.variables (no_channel_may usage n (h.uses x) w a, tt) h.held)
          (λ held o. given (goes_on_with p usage n f h held o)))
      work_done Eval vs w m = stray
      work_done Close vs w m = then_gives (only_channel usage n to_close vs m) (λ c m. given m)
      work_done (Print pieces) vs w m = then_gives (in_any_case (texts pieces vs)) (λ ts a. given tt)
      work_done Send [] w m = stray
      work_done Send (c ∷ []) w m = stray
      work_done Send (c ∷ v ∷ []) w m = then_gives (channel_may usage n to_send c m.0) (λ c a. given (a, given (sent_shared usage n v sharing m.1.0)))
      work_done Send (c ∷ v ∷ u ∷ vs) w m = stray
      work_done (Go k) vs w m = given m
      work_done Return [] w m = given tt
      work_done Return (v ∷ []) w m = given m.0
      work_done Return (v ∷ u ∷ vs) w m = stray
      work_done GoOn vs w m = given (goes_on_fits p usage n f h)
      work_done Astray vs w m = stray
      work_done (Test holds) vs w m = then_gives (in_any_case (only vs >>= as_truth)) (λ b a. given (moved_on p usage n f h _
          (after_fits p usage n h.uses f.function (if b then holds else f.point.rest) (if_either (RestFits p usage n h.uses f.function) b (λ e. w) (λ e. h.stands.rest)))))
      work_done (Range t body) vs w m = then_gives (only_fits usage n (bounds.only to_receive) vs m) (λ c a. given (moved_on p usage n f h _
          (record { operands = (a, tt); work = w; rest = h.stands.rest })))
      work_done (Turn t body) vs w m = then_gives (only_channel usage n to_receive vs m) (λ c a. given (a, tt))
      work_done (Select cases) vs w m = stray

      by_work : (work : Work) → WorkFits p usage n h.uses f.function work → AllFit (work_uses p usage n h.uses f.function work) f.point.operands
          → IfGives DeedFits (statement_of f work f.point.operands)
      by_work (Select cases) w o = then_gives (clauses_fit cases f.point.operands o) (λ xs c. given c)
      by_work (Assign targets) w o = then_gives (evaluate_every (work_uses p usage n h.uses f.function (Assign targets)) f.point.operands o) (λ vs m. work_done (Assign targets) vs w m)
      by_work (AssignReceive value ok initial) w o = then_gives (evaluate_every (work_uses p usage n h.uses f.function (AssignReceive value ok initial)) f.point.operands o) (λ vs m. work_done (AssignReceive value ok initial) vs w m)
      by_work (Update x op) w o = then_gives (evaluate_every (work_uses p usage n h.uses f.function (Update x op)) f.point.operands o) (λ vs m. work_done (Update x op) vs w m)
      by_work Eval w o = then_gives (evaluate_every (work_uses p usage n h.uses f.function Eval) f.point.operands o) (λ vs m. work_done Eval vs w m)
      by_work Close w o = then_gives (evaluate_every (work_uses p usage n h.uses f.function Close) f.point.operands o) (λ vs m. work_done Close vs w m)
      by_work (Print pieces) w o = then_gives (evaluate_every (work_uses p usage n h.uses f.function (Print pieces)) f.point.operands o) (λ vs m. work_done (Print pieces) vs w m)
      by_work Send w o = then_gives (evaluate_every (work_uses p usage n h.uses f.function Send) f.point.operands o) (λ vs m. work_done Send vs w m)
      by_work (Go k) w o = then_gives (evaluate_every (work_uses p usage n h.uses f.function (Go k)) f.point.operands o) (λ vs m. work_done (Go k) vs w m)
      by_work Return w o = then_gives (evaluate_every (work_uses p usage n h.uses f.function Return) f.point.operands o) (λ vs m. work_done Return vs w m)
      by_work GoOn w o = then_gives (evaluate_every (work_uses p usage n h.uses f.function GoOn) f.point.operands o) (λ vs m. work_done GoOn vs w m)
      by_work Astray w o = then_gives (evaluate_every (work_uses p usage n h.uses f.function Astray) f.point.operands o) (λ vs m. work_done Astray vs w m)
      by_work (Test holds) w o = then_gives (evaluate_every (work_uses p usage n h.uses f.function (Test holds)) f.point.operands o) (λ vs m. work_done (Test holds) vs w m)
      by_work (Range t body) w o = then_gives (evaluate_every (work_uses p usage n h.uses f.function (Range t body)) f.point.operands o) (λ vs m. work_done (Range t body) vs w m)
      by_work (Turn t body) w o = then_gives (evaluate_every (work_uses p usage n h.uses f.function (Turn t body)) f.point.operands o) (λ vs m. work_done (Turn t body) vs w m)

  -- what it asks for
  pub deed_fits : IfGives DeedFits (deed f)
  deed_fits = part_fits (next_of f.point.operands) refl (nexts_fit p usage n h.uses f.function (work_uses p usage n h.uses f.function f.point.work) f.point.operands h.stands.operands)
