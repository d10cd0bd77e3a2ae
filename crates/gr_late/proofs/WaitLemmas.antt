-- In the schedules of a checked program waits are as they should be.
use Rattle.std.proofs.Common.{◌≡◌, ℕ, Bool, true, false, List, Option, Some, None, option_map, refl, sym, ◌∙◌, ap, subst, inl, inr}
use Rattle.gr_base.specs.declared.events.Event.{Event}
use Rattle.gr_base.specs.declared.objects.Object.{Object}
use Rattle.gr_base.specs.declared.objects.Object.TheVariants.{Run as TheRun, Go}
use Rattle.gr_causal.specs.Machine as causal
use Rattle.gr_causal.specs.Sequences.{In}
use Rattle.gr_causal.proofs.ListLemmas.{some_is, none_not}
use Rattle.gr_causal.proofs.StepLemmas.{which, in_or_not}
use Rattle.gr_program.specs.Programs.{Program}
use Rattle.gr_rules.specs.Goroutines.{Wait, Status, ready, waiting, finished, Goroutine}
use Rattle.gr_rules.specs.States.{Run, live, ended, faulted, run_has, State, look}
use Rattle.gr_rules.specs.Attempts.{goroutine_waits}
use Rattle.gr_rules.specs.Steps.{machine}
use Rattle.gr_laws.specs.Reached.{Reached}
use Rattle.gr_laws.specs.Refusals.{HasStatus}
use Rattle.gr_laws.proofs.CellLemmas.{no_truth, go_name, run_is, goroutine_is, machine_laws}
use Rattle.gr_laws.proofs.LocalLemmas.{Plainly}
use Rattle.gr_laws.proofs.ReasonLemmas.{if_waits}
use Rattle.gr_laws.proofs.RefusalLemmas.{refused_is_no_step}
use Rattle.gr_record.specs.Running.{IsChecked}
use Rattle.gr_search.specs.System as system
use Rattle.gr_search.specs.System.{Ends, Laws}
use Rattle.gr_search.specs.Late.{IsWait, WaitLaws}
use Rattle.gr_search.proofs.Safe.{reached_next}
use Rattle.gr_schedules.specs.Matters.{Matter, bare, matter}
use Rattle.gr_schedules.specs.Schedules.{Origin, is_alone, next_state, schedules}
use Rattle.gr_schedules.proofs.AloneLemmas.{stands_alone, alone_by_looks, alone_is_plain, alone_keeps, alone_untouched}
use Rattle.gr_schedules.proofs.ScheduleLemmas.{noted}
use Rattle.gr_schedules.proofs.SystemLaws.{reached_by}
use Rattle.gr_late.specs.Waiting.{waits_in, is_waiting}
use Rattle.gr_late.proofs.LocalLeaves.{left_up}

-- a goroutine that waits, while the program runs
pub record Waits (s : State) (e : Event) : Type 0 where
  pub runs : s.run ≡ live
  pub waits : List Wait
  pub status : HasStatus s e.go (waiting waits)

pub waits_as : (s : State) (e : Event) → is_waiting s e ≡ true → Waits s e
waits_as s e h = by_run s.run refl h
  where
    by_status : s.run ≡ live → (g : Goroutine) → s.goroutines e.go ≡ Some g → (x : Status) → g.status ≡ x → (elim x [ waiting ws ↦ true | _ ↦ false ]) ≡ true → Waits s e
    by_status l g here ready has q = absurd (no_truth q)
    by_status l g here (waiting ws) has q = record { runs = l; waits = ws; status = record { runs = l; goroutine = g; here = here; has = has } }
    by_status l g here finished has q = absurd (no_truth q)

    by_known : s.run ≡ live → (o : Option Goroutine) → s.goroutines e.go ≡ o → waits_in o ≡ true → Waits s e
    by_known l None here q = absurd (no_truth q)
    by_known l (Some g) here q = by_status l g here g.status refl q

    by_run : (r : Run) → s.run ≡ r → (elim r [ live ↦ waits_in (s.goroutines e.go) | _ ↦ false ]) ≡ true → Waits s e
    by_run live l q = by_known l (s.goroutines e.go) refl q
    by_run ended l q = absurd (no_truth q)
    by_run (faulted f) l q = absurd (no_truth q)

-- nobody waits where the program does not run
none_waits : (s : State) (e : Event) → (s.run ≡ live → ⊥) → is_waiting s e ≡ false
none_waits s e h = by (is_waiting s e) refl
  where
    by : (b : Bool) → is_waiting s e ≡ b → is_waiting s e ≡ false
    by false q = q
    by true q = absurd (h (waits_as s e q).runs)

-- whether a goroutine waits depends on it, and on whether the program runs
pub by_looks : (s t : State) (e : Event) → s.run ≡ t.run → s.goroutines e.go ≡ t.goroutines e.go → is_waiting s e ≡ is_waiting t e
by_looks s t e run own =
    ap (λ (r : Run). elim r [ live ↦ waits_in (s.goroutines e.go) | _ ↦ false ]) run
    ∙ ap (λ o. elim t.run [ live ↦ waits_in o | _ ↦ false ]) own

bare_waits : (o : Option Goroutine) → waits_in (option_map bare o) ≡ waits_in o
bare_waits None = refl
bare_waits (Some g) = refl

like_waits : (s r : State) (e : Event) → matter s ≡ matter r → is_waiting s e ≡ is_waiting r e
like_waits s r e same =
    let run : s.run ≡ r.run = ap (λ (m : Matter). m.run) same in
    let own : option_map bare (s.goroutines e.go) ≡ option_map bare (r.goroutines e.go) = ap (λ (m : Matter). m.goroutines e.go) same in
    ap (λ (x : Run). elim x [ live ↦ waits_in (s.goroutines e.go) | _ ↦ false ]) run
    ∙ ap (λ b. elim r.run [ live ↦ b | _ ↦ false ]) (sym (bare_waits (s.goroutines e.go)) ∙ ap waits_in own ∙ bare_waits (r.goroutines e.go))

up_waits : (o : Option Goroutine) (g : Goroutine) → o ≡ Some g → g.status ≡ ready → waits_in o ≡ false
up_waits o g here up = ap waits_in here ∙ ap (λ (x : Status). elim x [ waiting ws ↦ true | _ ↦ false ]) up

not_by : (b : Bool) → b ≡ true → b ≡ false → ⊥
not_by b h g = cc

module _ (o : Origin) (checked : IsChecked o.program) where
  abbrev p : Program
  p = o.program

  abbrev M : causal.Machine
  M = machine p

  laws : causal.Laws M
  laws = machine_laws p

  pub still : (s : State) (e : Event) → is_waiting s e ≡ true → next_state p s e ≡ None
  still s e h =
      let w = waits_as s e h in
      ap (option_map (λ r. r.0)) ((refused_is_no_step p s e).1 (goroutine_waits, if_waits p s e w.waits w.status))

  -- what a step that is taken alone leaves
  record LeftAlone (s : State) (a : Event) (t : State) : Type 0 where
    runs : s.run ≡ live
    run : t.run ≡ s.run
    others : (n : List ℕ) → (Go n ≡ Go a.go → ⊥) → t.goroutines n ≡ s.goroutines n
    up : waits_in (s.goroutines a.go) ≡ false
    up_after : waits_in (t.goroutines a.go) ≡ false

  run_no_go : (g : List ℕ) → TheRun ≡ Go g → ⊥
  run_no_go g e = cc

  step_of : (s t : State) (e : Event) → next_state p s e ≡ Some t → (n : (machine p).Note) × ((machine p).step s e ≡ Some (t, n))
  step_of s t e h = noted p s t e h

  left_alone : (s t : State) (a : Event) → Reached p s → is_alone s a ≡ true → next_state p s a ≡ Some t → LeftAlone s a t
  left_alone s t a r h g =
      let w = stands_alone s a h in
      let k = alone_keeps p checked s a r h in
      let is : k.0 ≡ t = some_is _ _ (sym (ap (option_map (λ x. x.0)) k.2) ∙ g) in
      let does : (machine p).step s a ≡ Some (t, k.1) = k.2 ∙ ap (λ x. Some (x, k.1)) is in
      let plainly : a ≡ Plainly p s a.go = λ i. record { go = a.go; choice = w.plain i } in
      let left = left_up p s a.go t k.1 w.is_local (ap ((machine p).step s) (sym plainly) ∙ does) in
      record {
        runs = w.runs;
        run = run_is t.run s.run (laws.only_writes s t a k.1 does TheRun (λ i. run_no_go a.go (k.3.writes_own TheRun i)));
        others = λ n off. goroutine_is n (t.goroutines n) (s.goroutines n) (laws.only_writes s t a k.1 does (Go n) (λ i. off (k.3.writes_own (Go n) i)));
        up = up_waits (s.goroutines a.go) w.goroutine w.there w.is_up;
        up_after = up_waits (t.goroutines a.go) left.left left.there left.up;
      }

  alone_waits : (s t : State) (a e : Event) → Reached p s → is_alone s a ≡ true → next_state p s a ≡ Some t → is_waiting t e ≡ is_waiting s e
  alone_waits s t a e r h g = elim (which M laws (Go e.go) (Go a.go)) [
    | inl own ↦
        let same = go_name e.go a.go own in
        ap (λ (x : Run). elim x [ live ↦ waits_in (t.goroutines e.go) | _ ↦ false ]) l.run
        ∙ ap (λ b. elim s.run [ live ↦ b | _ ↦ false ]) (ap (λ n. waits_in (t.goroutines n)) same ∙ l.up_after ∙ sym l.up ∙ ap (λ n. waits_in (s.goroutines n)) (sym same))
    | inr off ↦ by_looks t s e l.run (l.others e.go off)
  ]
    where
      l : LeftAlone s a t
      l = left_alone s t a r h g

  -- a step of another leaves what may be taken alone, while the program runs
  alone_left : (s u : State) (a e : Event) → Reached p s → is_alone s a ≡ true → next_state p s e ≡ Some u → (e ≡ a → ⊥) → u.run ≡ live → is_alone u a ≡ true
  alone_left s u a e r h g other l =
      let k = step_of s u e g in
      let off : Go e.go ≡ Go a.go → ⊥ = λ q. other (alone_is_plain p s u k.0 a e h k.1 q) in
      let w = stands_alone s a h in
      alone_by_looks s u a h (ap run_has (l ∙ sym w.runs))
      (laws.only_writes s u e k.0 k.1 (Go a.go) (λ i. alone_untouched p checked s u k.0 a e r h k.1 off (laws.within s u e k.0 k.1 (Go a.go) i)))

  alone_stays : (s m : State) (a w : Event) → Reached p s → is_alone s a ≡ true → IsWait (schedules o) is_waiting s w m → is_alone m a ≡ true
  alone_stays s m a w r h i =
      alone_left s m a w r h i.goes (λ same. not_by (is_waiting m w) i.then_waits
      (alone_waits s m a w r h (ap (next_state p s) (sym same) ∙ i.goes) ∙ waits_before s m w i.goes)) (waits_as m w i.then_waits).runs
    where
      -- who takes a possible event does not wait
      waits_before : (s t : State) (e : Event) → next_state p s e ≡ Some t → is_waiting s e ≡ false
      waits_before s t e g = by (is_waiting s e) refl
        where
          by : (b : Bool) → is_waiting s e ≡ b → is_waiting s e ≡ false
          by false q = q
          by true q = absurd (none_not t (sym (still s e q) ∙ g))

  -- after what ends all nobody waits, whether something was taken alone before or not
  module _ (s t u v : State) (a e : Event) (r : system.Reached (schedules o) s) (h : is_alone s a ≡ true) (sa : next_state p s a ≡ Some t) (se : next_state p s e ≡ Some u)
      (n : Ends (schedules o) e t u) (te : next_state p t e ≡ Some v) where
    here : Reached p s
    here = reached_by o s r

    other : e ≡ a → ⊥
    other same = none_not v (sym (n.none e) ∙ ap (λ x. next_state p x e) (some_is u t (sym se ∙ ap (next_state p s) same ∙ sa)) ∙ te)

    u_over : u.run ≡ live → ⊥
    u_over l =
        let k = alone_keeps p checked u a (reached_by o u (reached_next (schedules o) s u e r se)) (alone_left s u a e here h se other l) in
        none_not k.0 (sym (n.none a) ∙ ap (option_map (λ x. x.0)) k.2)

    v_over : v.run ≡ live → ⊥
    v_over l =
        let k = step_of s u e se in
        let w = stands_alone s a h in
        let d = left_alone s t a here h sa in
        let off : Go e.go ≡ Go a.go → ⊥ = λ q. other (alone_is_plain p s u k.0 a e h k.1 q) in
        let b = alone_keeps p checked s a here h in
        let is : b.0 ≡ t = some_is _ _ (sym (ap (option_map (λ x. x.0)) b.2) ∙ sa) in
        let does : (machine p).step s a ≡ Some (t, b.1) = b.2 ∙ ap (λ x. Some (x, b.1)) is in
        let away : (c : Object) → In c ((machine p).touches k.0) → look t c ≡ look s c = λ c i.
        laws.only_writes s t a b.1 does c (λ j. alone_untouched p checked s u k.0 a e here h k.1 off (subst (λ x. In x ((machine p).touches k.0)) (b.3.writes_own c j) i)) in
        let x = laws.local s u e k.0 k.1 t away in
        let one : x.0 ≡ v = some_is _ _ (sym (ap (option_map (λ y. y.0)) x.1) ∙ te) in
        elim (in_or_not M laws TheRun ((machine p).writes k.0)) [
          | inl i ↦ u_over (sym (run_is x.0.run u.run (x.2 TheRun i)) ∙ ap (λ (y : State). y.run) one ∙ l)
          | inr j ↦ u_over (run_is u.run s.run (laws.only_writes s u e k.0 k.1 TheRun j) ∙ w.runs)
        ]

    pub alone_ends : (f : Event) → is_waiting v f ≡ is_waiting u f
    alone_ends f = none_waits v f v_over ∙ sym (none_waits u f u_over)

  pub wait_laws : WaitLaws (schedules o) is_waiting
  wait_laws = record {
    still = λ s e r h. still s e h;
    like_waits = λ s t e i j same. like_waits s t e same;
    alone_stays = λ s m a w r h i. alone_stays s m a w (reached_by o s r) h i;
    alone_waits = λ s t a e r h g. alone_waits s t a e (reached_by o s r) h g;
    alone_ends = λ s t u v a e f r h sa se n te. alone_ends s t u v a e r h sa se n te f;
  }
