-- What a step writes leaves a sound state sound.
use Rattle.std.proofs.Common.{fold, ◌≡◌, ℕ, ◌+◌, ◌%◌, ◌==◌, ◌≤◌, nat_eq, Bool, true, false, if◌then◌else◌, List, [], ◌∷◌, Option, Some, None, option_map, refl, sym, ◌∙◌, ap, subst, arith, inl, inr, eqb-true, eq-eqb}
use Rattle.std.specs.List.{list_any}
use Rattle.gr_base.specs.declared.names.ChName.{ChName}
use Rattle.gr_base.specs.declared.values.Value.{Value}
use Rattle.gr_base.specs.declared.kinds.Fault.{Fault}
use Rattle.gr_base.specs.declared.kinds.Kind.{Kind}
use Rattle.gr_base.specs.declared.objects.Object.{Object}
use Rattle.gr_causal.specs.Sequences.{In}
use Rattle.std.proofs.lemmas.Bool.{cases_Bool, or_left, or_right}
use Rattle.std.proofs.lemmas.Option.{none-some}
use Rattle.gr_channels.specs.declared.waiter.Waiter.{Waiter}
use Rattle.gr_channels.specs.Objects.{GateContent}
use Rattle.gr_rules.specs.Outcomes.{Outcome, gives, faults, wrong, ◌>>=◌}
use Rattle.gr_rules.specs.Operators.{same_channel}
use Rattle.gr_rules.specs.Frames.{Frame}
use Rattle.gr_rules.specs.Deeds.{past}
use Rattle.gr_rules.specs.Goroutines.{Wait, channel_of, Status, ready, waiting, finished, Goroutine}
use Rattle.gr_rules.specs.States.{Cell, run_has, go_has, gate_has, tail_has, head_has, slot_has, State, same_go, look, updated, put}
use Rattle.gr_rules.specs.Attempts.{Refusal, Operation, Attempt, refuse, perform, ask, if_there, ask_gate, room_for, ask_room, ask_item}
use Rattle.gr_rules.specs.Actors.{Actor, does, fault, given, if_gives, without, channels_but, if_waiting, ask_waiter, ask_withdrawn, met, ask_met}
use Rattle.gr_laws.specs.Soundness.{SoundBuffer, SoundChannel, made_by, Sound}
use Rattle.gr_laws.proofs.CellLemmas.{go_is, go_self, channel_is, channel_self, updated_here}
use Rattle.gr_laws.proofs.BufferLemmas.{told, thinned, full_of_none, full_of_item, empty_of_none, empty_of_slot}

-- a channel of the state is sound
abbrev pub At : State → ChName → Type 0
At s c = SoundChannel (s.gates c) (s.heads c) (s.tails c) (s.slots c)

-- states that come from this one, where the buffers of some channels are left as they were
module _ (s : State) (Left : ChName → Type 0) where
  pub record From (t : State) : Type 0 where
    pub channels : (c : ChName) → At t c
    pub counts : (n : List ℕ) → made_by (s.goroutines n) ≤ made_by (t.goroutines n)
    pub unmade : (c : ChName) → s.gates c ≡ None → t.gates c ≡ None
    pub ends : (c : ChName) → Left c → (t.heads c ≡ s.heads c) × (t.tails c ≡ s.tails c) × (t.slots c ≡ s.slots c)

  -- cells that write goroutines, and gates that are sound with the buffers as they were
  abbrev pub Fine : List Cell → Type 0
  Fine [] = Unit {0}
  Fine (run_has r ∷ cs) = Fine cs
  Fine (go_has n x ∷ cs) = (made_by (s.goroutines n) ≤ made_by x) × Fine cs
  Fine (gate_has c x ∷ cs) = Left c × (s.gates c ≡ None → ⊥) × SoundChannel x (s.heads c) (s.tails c) (s.slots c) × Fine cs
  Fine (tail_has c n ∷ cs) = ⊥
  Fine (head_has c n ∷ cs) = ⊥
  Fine (slot_has c i x ∷ cs) = ⊥

  put_go : (t : State) (n : List ℕ) (x : Option Goroutine) → made_by (s.goroutines n) ≤ made_by x → From t → From (put t (go_has n x))
  put_go t n x le f = record {
    channels = f.channels;
    counts = λ o. elim (cases_Bool (same_go o n)) [
      | inl e ↦ let q = go_is o n e in subst (λ m. made_by (s.goroutines m) ≤ made_by (updated same_go t.goroutines n x m)) (sym q) (rw (updated_here same_go go_self t.goroutines n x) le)
      | inr e ↦ rw e (f.counts o)
    ];
    unmade = f.unmade;
    ends = f.ends;
  }

  put_gate : (t : State) (c : ChName) (x : Option GateContent) → Left c → (s.gates c ≡ None → ⊥) → SoundChannel x (s.heads c) (s.tails c) (s.slots c) → From t → From (put t (gate_has c x))
  put_gate t c x here made b f =
      let old = f.ends c here in
      let now : SoundChannel x (t.heads c) (t.tails c) (t.slots c) = told x old.0 old.1 old.2 b in record {
        channels = λ d. elim (cases_Bool (same_channel d c)) [
          | inl e ↦ rw e (subst (λ d. SoundChannel x (t.heads d) (t.tails d) (t.slots d)) (sym (channel_is d c e)) now)
          | inr e ↦ rw e (f.channels d)
        ];
        counts = f.counts;
        unmade = λ d q. elim (cases_Bool (same_channel d c)) [
          | inl e ↦ absurd (made (ap s.gates (sym (channel_is d c e)) ∙ q))
          | inr e ↦ rw e (f.unmade d q)
        ];
        ends = f.ends;
      }

  pub from_cells : (t : State) (cs : List Cell) → Fine cs → From t → From (fold put t cs)
  from_cells t [] o f = f
  from_cells t (run_has r ∷ cs) o f = from_cells (put t (run_has r)) cs o (record { channels = f.channels; counts = f.counts; unmade = f.unmade; ends = f.ends })
  from_cells t (go_has n x ∷ cs) o f = from_cells (put t (go_has n x)) cs o.1 (put_go t n x o.0 f)
  from_cells t (gate_has c x ∷ cs) o f = from_cells (put t (gate_has c x)) cs o.3 (put_gate t c x o.0 o.1 o.2 f)
  from_cells t (tail_has c n ∷ cs) o f = absurd o
  from_cells t (head_has c n ∷ cs) o f = absurd o
  from_cells t (slot_has c i x ∷ cs) o f = absurd o

  pub from_itself : Sound s → From s
  from_itself h = record { channels = h.channels; counts = λ n. omega arith; unmade = λ c e. e; ends = λ c l. (refl, refl, refl) }

  pub sound_from : Sound s → (t : State) → From t → Sound t
  sound_from h t f = record {
    channels = f.channels;
    named = λ c l. f.unmade c (h.named c (let g = f.counts c.go in omega arith));
  }

-- another buffer at one channel
module _ (s : State) (c : ChName) where
  abbrev pub But : ChName → Type 0
  But d = d ≡ c → ⊥

  not_here : (d : ChName) → But d → same_channel d c ≡ false
  not_here d n = elim (cases_Bool (same_channel d c)) [ inl e ↦ absurd (n (channel_is d c e)) | inr e ↦ e ]

  pub entering : (t : State) (n i : ℕ) (x : Option (ℕ × Value)) → SoundChannel (t.gates c) (t.heads c) n (updated nat_eq (t.slots c) i x)
      → From s But t → From s But (put (put t (tail_has c n)) (slot_has c i x))
  entering t n i x b f = record {
    channels = λ d. elim (cases_Bool (same_channel d c)) [
      | inl e ↦ rw e (subst (λ d. SoundChannel (t.gates d) (t.heads d) n (updated nat_eq (t.slots c) i x)) (sym (channel_is d c e)) b)
      | inr e ↦ rw e (f.channels d)
    ];
    counts = f.counts;
    unmade = f.unmade;
    ends = λ d l. let o = f.ends d l in rw (not_here d l) (o.0, o.1, o.2);
  }

  pub leaving : (t : State) (n i : ℕ) (x : Option (ℕ × Value)) → SoundChannel (t.gates c) n (t.tails c) (updated nat_eq (t.slots c) i x)
      → From s But t → From s But (put (put t (head_has c n)) (slot_has c i x))
  leaving t n i x b f = record {
    channels = λ d. elim (cases_Bool (same_channel d c)) [
      | inl e ↦ rw e (subst (λ d. SoundChannel (t.gates d) n (t.tails d) (updated nat_eq (t.slots c) i x)) (sym (channel_is d c e)) b)
      | inr e ↦ rw e (f.channels d)
    ];
    counts = f.counts;
    unmade = f.unmade;
    ends = λ d l. let o = f.ends d l in rw (not_here d l) (o.0, o.1, o.2);
  }

  pub passing : (t : State) (g : Option GateContent) (h n i : ℕ) (x : Option (ℕ × Value)) → (s.gates c ≡ None → ⊥) → SoundChannel g h n (updated nat_eq (t.slots c) i x)
      → From s But t → From s But (put (put (put (put t (gate_has c g)) (head_has c h)) (tail_has c n)) (slot_has c i x))
  passing t g h n i x made b f = record {
    channels = λ d. elim (cases_Bool (same_channel d c)) [
      | inl e ↦ rw e b
      | inr e ↦ rw e (f.channels d)
    ];
    counts = f.counts;
    unmade = λ d q. elim (cases_Bool (same_channel d c)) [
      | inl e ↦ absurd (made (ap s.gates (sym (channel_is d c e)) ∙ q))
      | inr e ↦ rw e (f.unmade d q)
    ];
    ends = λ d l. let o = f.ends d l in rw (not_here d l) (o.0, o.1, o.2);
  }

any_of : (c : ChName) (cs : List ChName) → In c cs → list_any (same_channel c) cs ≡ true
any_of c [] i = elim i [ ]
any_of c (d ∷ cs) (inl e) = or_left (same_channel c d) (list_any (same_channel c) cs) (ap (same_channel c) (sym e) ∙ channel_self c)
any_of c (d ∷ cs) (inr i) = or_right (same_channel c d) (list_any (same_channel c) cs) (any_of c cs i)

-- channels that were seen are left out
pub unseen : (seen : List ChName) (ws : List Wait) (c : ChName) → In c seen → In c (channels_but seen ws) → ⊥
unseen seen [] c i j = elim j [ ]
unseen seen (w ∷ ws) c i j = by_seen (unseen seen ws c i) (unseen (channel_of w ∷ seen) ws c (inr i)) (list_any (same_channel (channel_of w)) seen) refl j
  where
    by_seen : (In c (channels_but seen ws) → ⊥) → (In c (channels_but (channel_of w ∷ seen) ws) → ⊥) → (b : Bool) → list_any (same_channel (channel_of w)) seen ≡ b
        → In c (if b then channels_but seen ws else channel_of w ∷ channels_but (channel_of w ∷ seen) ws) → ⊥
    by_seen p q true e k = p k
    by_seen p q false e (inl d) = let t = any_of c seen i in let u : list_any (same_channel c) seen ≡ false = ap (λ x. list_any (same_channel x) seen) d ∙ e in let f : true ≡ false = sym t ∙ u in cc
    by_seen p q false e (inr k) = q k

-- the attempts at a step from a sound state
module _ (s : State) (sound : Sound s) where
  abbrev pub Keeps : Attempt → Type 0
  Keeps (refuse r) = Unit {0}
  Keeps (perform report cells) = Sound (fold put s cells)
  Keeps (ask o f) = Keeps (f (look s o))

  pub record K (x : Attempt) : Type 0 where
    pub keeps : Keeps x

  pub refused : {r : Refusal} → K (refuse r)
  refused = record { keeps = tt }

  pub asked : {o : Object} {f : Cell → Attempt} → K (f (look s o)) → K (ask o f)
  asked h = record { keeps = h.keeps }

  pub if_keeps : (b : Bool) {x y : Attempt} → (b ≡ true → K x) → (b ≡ false → K y) → K (if b then x else y)
  if_keeps true p q = p refl
  if_keeps false p q = q refl

  pub gate_keeps : {c : ChName} {k : GateContent → Attempt} → ((gate : GateContent) → s.gates c ≡ Some gate → K (k gate)) → K (ask_gate c k)
  gate_keeps {c} {k} h = asked (by_gate (s.gates c) refl)
    where
      by_gate : (x : Option GateContent) → s.gates c ≡ x → K (if_there k x)
      by_gate None at = refused
      by_gate (Some gate) at = h gate at

  pub buffer : (c : ChName) (gate : GateContent) → s.gates c ≡ Some gate → SoundBuffer gate (s.heads c) (s.tails c) (s.slots c)
  buffer c gate at = subst (λ x. SoundChannel x (s.heads c) (s.tails c) (s.slots c)) at (sound.channels c)

  pub made : (c : ChName) (gate : GateContent) → s.gates c ≡ Some gate → s.gates c ≡ None → ⊥
  made c gate at e = none-some _ (sym e ∙ at)

  not_zero : (n : ℕ) → (n == 0) ≡ false → n ≡ 0 → ⊥
  not_zero n e q = let t = eq-eqb n 0 q in let f : true ≡ false = sym t ∙ e in cc

  pub room_keeps : (c : ChName) (gate : GateContent) (k : Option ℕ → Attempt) → s.gates c ≡ Some gate
      → (s.tails c ≡ s.heads c + gate.capacity → K (k None))
      → ((gate.capacity ≡ 0 → ⊥) → s.slots c (s.tails c % gate.capacity) ≡ None → K (k (Some (s.tails c)))) → K (ask_room c gate k)
  room_keeps c gate k at none some =
      let b = buffer c gate at in
      asked (if_keeps (gate.capacity == 0)
      (λ e. none (full_of_none gate (s.heads c) (s.tails c) (s.slots c) b (eqb-true gate.capacity 0 e)))
      (λ e. asked (by_slot b (not_zero gate.capacity e) (s.slots c (s.tails c % gate.capacity)) refl)))
    where
      by_slot : SoundBuffer gate (s.heads c) (s.tails c) (s.slots c) → (gate.capacity ≡ 0 → ⊥) → (x : Option (ℕ × Value)) → s.slots c (s.tails c % gate.capacity) ≡ x → K (k (room_for (s.tails c) x))
      by_slot b n None q = some n q
      by_slot b n (Some x) q = none (full_of_item gate (s.heads c) (s.tails c) (s.slots c) b x.0 x.1 q)

  pub item_keeps : (c : ChName) (gate : GateContent) (k : Option (ℕ × Value) → Attempt) → s.gates c ≡ Some gate
      → (s.tails c ≡ s.heads c → K (k None))
      → ((n : ℕ) (v : Value) → s.slots c (s.heads c % gate.capacity) ≡ Some (n, v) → K (k (Some (s.heads c, v)))) → K (ask_item c gate k)
  item_keeps c gate k at none some =
      let b = buffer c gate at in
      asked (if_keeps (gate.capacity == 0)
      (λ e. none (empty_of_none gate (s.heads c) (s.tails c) (s.slots c) b (eqb-true gate.capacity 0 e)))
      (λ e. asked (by_slot b (s.slots c (s.heads c % gate.capacity)) refl)))
    where
      by_slot : SoundBuffer gate (s.heads c) (s.tails c) (s.slots c) → (x : Option (ℕ × Value)) → s.slots c (s.heads c % gate.capacity) ≡ x → K (k (option_map (λ x. (s.heads c, x.1)) x))
      by_slot b None q = none (empty_of_slot gate (s.heads c) (s.tails c) (s.slots c) b q)
      by_slot b (Some x) q = some x.0 x.1 q

  pub withdrawn_keeps : (Left : ChName → Type 0) (names : List (List ℕ)) (cs : List ChName) (k : List Cell → Attempt) → ((c : ChName) → In c cs → Left c)
      → ((cells : List Cell) → Fine s Left cells → K (k cells)) → K (ask_withdrawn names cs k)
  withdrawn_keeps Left names [] k l h = h [] tt
  withdrawn_keeps Left names (c ∷ cs) k l h = gate_keeps (λ gate at.
      withdrawn_keeps Left names cs (λ cells. k (gate_has c (Some (without names gate)) ∷ cells)) (λ d i. l d (inr i))
      (λ cells o. h (gate_has c (Some (without names gate)) ∷ cells) (l c (inl refl), made c gate at, thinned names gate (s.heads c) (s.tails c) (s.slots c) (buffer c gate at), o)))

  pub waiter_keeps : (n : List ℕ) (k : Goroutine → List Wait → Attempt)
      → ((g : Goroutine) (ws : List Wait) → s.goroutines n ≡ Some g → K (k g ws)) → K (ask_waiter n k)
  waiter_keeps n k h = asked (by_found (s.goroutines n) refl)
    where
      by_status : (g : Goroutine) → s.goroutines n ≡ Some g → (x : Status) → K (if_waiting (k g) x)
      by_status g at ready = refused
      by_status g at (waiting ws) = h g ws at
      by_status g at finished = refused

      by_found : (x : Option Goroutine) → s.goroutines n ≡ x → K (if_there (λ g. if_waiting (k g) g.status) x)
      by_found None at = refused
      by_found (Some g) at = by_status g at g.status

  -- a goroutine past its communication is as it was, but for its status and frames
  past_keeps : (clause : Option ℕ) (got : Option (Value × Bool)) (g : Goroutine) (fs : List Frame) (k : Goroutine → Attempt)
      → ((fs : List Frame) → K (k (record g { status = ready; frames = fs }))) → K (if_gives k (met clause got g fs))
  past_keeps clause got g [] k h = refused
  past_keeps clause got g (f ∷ fs) k h = by_past (past f clause got)
    where
      by_past : (x : Outcome Frame) → K (if_gives k (x >>= λ f. gives (record g { status = ready; frames = f ∷ fs })))
      by_past (gives f) = h (f ∷ fs)
      by_past (faults e) = refused
      by_past wrong = refused

  pub met_keeps : {X : Type 0} (c : ChName) (w : Waiter X) (got : Option (Value × Bool)) (k : List Cell → Attempt)
      → ((cells : List Cell) → Fine s (But s c) cells → K (k cells)) → K (ask_met c w got k)
  met_keeps c w got k h = waiter_keeps w.go _ (λ g ws at.
      withdrawn_keeps (But s c) (w.go ∷ []) (channels_but (c ∷ []) ws) _ (λ d i e. unseen (c ∷ []) ws d (inl e) i)
      (λ cells o. past_keeps w.case got g g.frames _ (λ fs. h _ (let before : made_by (s.goroutines w.go) ≡ g.channels = ap made_by at in omega arith, o))))

  module _ (a : Actor) (here : s.goroutines a.name ≡ Some a.before) where
    abbrev pub Any : ChName → Type 0
    Any c = Unit {0}

    pub own : (g : Goroutine) → a.before.channels ≤ g.channels → made_by (s.goroutines a.name) ≤ made_by (Some g)
    own g le = let before : made_by (s.goroutines a.name) ≡ a.before.channels = ap made_by here in omega arith

    pub any_fine : (Left : ChName → Type 0) (cells : List Cell) → Fine s Left cells → Fine s Any cells
    any_fine Left [] o = tt
    any_fine Left (run_has r ∷ cs) o = any_fine Left cs o
    any_fine Left (go_has n x ∷ cs) o = (o.0, any_fine Left cs o.1)
    any_fine Left (gate_has c x ∷ cs) o = (tt, o.1, o.2, any_fine Left cs o.3)
    any_fine Left (tail_has c n ∷ cs) o = o
    any_fine Left (head_has c n ∷ cs) o = o
    any_fine Left (slot_has c i x ∷ cs) o = o

    -- a step that leaves all buffers as they were
    pub does_keeps : {clause : Option ℕ} {operation : Option Operation} {kind : Kind} {g : Goroutine} {cells : List Cell}
        → a.before.channels ≤ g.channels → Fine s Any cells → K (does a clause operation kind g cells)
    does_keeps {g = g} {cells = cells} le o = record { keeps = sound_from s Any sound _ (from_cells s Any s (go_has a.name (Some g) ∷ cells) (own g le, o) (from_itself s Any sound)) }

    pub fault_keeps : (operation : Option Operation) (e : Fault) → K (fault a operation e)
    fault_keeps operation e = does_keeps (omega arith) tt

    pub given_keeps : {A : Type 0} (x : Outcome A) {k : A → Attempt} → ((v : A) → K (k v)) → K (given a x k)
    given_keeps (gives v) h = h v
    given_keeps (faults e) h = fault_keeps None e
    given_keeps wrong h = refused
