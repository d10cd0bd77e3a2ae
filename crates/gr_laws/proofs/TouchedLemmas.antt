-- A step writes no object twice, and what it read and wrote are the objects of the table's row.
use Rattle.std.proofs.Common.{◌≡◌, ◌↔◌, ◌⊎◌, ℕ, zero, suc, Bool, true, false, ◌||◌, List, [], ◌∷◌, ◌++◌, map, take, Option, Some, None, refl, sym, ◌∙◌, ap, subst, inl, inr}
use Rattle.std.specs.List.{list_any}
use Rattle.gr_base.specs.declared.names.ChName.{ChName}
use Rattle.gr_base.specs.declared.events.Event.{Event}
use Rattle.gr_base.specs.declared.kinds.Kind.{Kind}
use Rattle.gr_base.specs.declared.kinds.Kind.TheVariants as kinds
use Rattle.gr_base.specs.declared.objects.Object.{Object}
use Rattle.gr_base.specs.declared.objects.Object.TheVariants.{Go, Gate, Tail, Head, Slot}
use Rattle.gr_causal.specs.Machine.{meets}
use Rattle.gr_causal.specs.Rules.{Note}
use Rattle.gr_causal.specs.Sequences.{In, Distinct}
use Rattle.gr_causal.proofs.ListLemmas.{true_or_false, or_true, or_left, or_right, In-append_cases, In-append_left, In-append_right, In-of_map}
use Rattle.gr_program.specs.Programs.{Program}
use Rattle.gr_rules.specs.Operators.{same_channel}
use Rattle.gr_rules.specs.Goroutines.{Wait, channel_of, Goroutine}
use Rattle.gr_rules.specs.States.{State, same_go, same}
use Rattle.gr_rules.specs.Attempts.{Operation, sends_on, receives_from, takes_len_of, takes_cap_of, closes, Report}
use Rattle.gr_rules.specs.Actors.{channels_but}
use Rattle.gr_rules.specs.Communications.{once}
use Rattle.gr_rules.specs.Steps.{machine}
use Rattle.gr_rules.specs.Touches.{senders_at, receivers_at, slot_numbered, woken, taken, with_channel, without_channel, row, table, AsTheTable}
use Rattle.gr_laws.specs.Reached.{Logged}
use Rattle.gr_laws.specs.Dependence.{clash}
use Rattle.gr_laws.specs.Touched.{AreTouched, TellTouches, each_once, read_only}
use Rattle.gr_laws.proofs.AttemptTouches.{touched_as}
use Rattle.gr_laws.proofs.RuleCounts.{behind_first, stepped}
use Rattle.gr_laws.proofs.CellLemmas.{go_name, go_is, go_self, channel_is, channel_self, same_is, same_self}

-- a test of equality finds what stands in a list
module _ {A : Type 0} (equal : A → A → Bool) (is : (x y : A) → equal x y ≡ true → x ≡ y) (self : (x : A) → equal x x ≡ true) where
  pub any_in : (x : A) (xs : List A) → list_any (equal x) xs ≡ true → In x xs
  any_in x [] h = absurd (let e : false ≡ true = h in cc)
  any_in x (y ∷ ys) h = elim (or_true (equal x y) (list_any (equal x) ys) h) [ inl e ↦ inl (is x y e) | inr e ↦ inr (any_in x ys e) ]

  pub in_any : (x : A) (xs : List A) → In x xs → list_any (equal x) xs ≡ true
  in_any x [] i = absurd i
  in_any x (y ∷ ys) i = elim i [
    | inl e ↦ or_left (equal x y) (list_any (equal x) ys) (subst (λ z. equal x z ≡ true) e (self x))
    | inr j ↦ or_right (equal x y) (list_any (equal x) ys) (in_any x ys j)
  ]

  pub none_in : (x : A) (xs : List A) → list_any (equal x) xs ≡ false → In x xs → ⊥
  none_in x xs f i = let t : true ≡ false = sym (in_any x xs i) ∙ f in cc

both_once : {A : Type 0} (xs ys : List A) → Distinct xs → Distinct ys → ((x : A) → In x xs → In x ys → ⊥) → Distinct (xs ++ ys)
both_once [] ys d e h = e
both_once (x ∷ xs) ys d e h = (
  λ i. elim (In-append_cases x xs ys i) [ inl j ↦ d.0 j | inr j ↦ h x (inl refl) j ],
  both_once xs ys d.1 e (λ y i j. h y (inr i) j),
)

images_once : {A B : Type 0} (f : A → B) → ((x y : A) → f x ≡ f y → x ≡ y) → (xs : List A) → Distinct xs → Distinct (map f xs)
images_once f one [] d = tt
images_once f one (x ∷ xs) d = (
  λ i. let h = In-of_map f (f x) xs i in d.0 (subst (λ y. In y xs) (sym (one x h.0 h.2)) h.1),
  images_once f one xs d.1,
)

gate_name : (c d : ChName) → Gate c ≡ Gate d → c ≡ d
gate_name c d e = cc

no_go : (o : Object) (names : List (List ℕ)) → ((n : List ℕ) → o ≡ Go n → ⊥) → In o (map Go names) → ⊥
no_go o names h i = let j = In-of_map Go o names i in h j.0 j.2

no_gate : (o : Object) (cs : List ChName) → ((c : ChName) → o ≡ Gate c → ⊥) → In o (map Gate cs) → ⊥
no_gate o cs h i = let j = In-of_map Gate o cs i in h j.0 j.2

gate_no_go : (c : ChName) (n : List ℕ) → Gate c ≡ Go n → ⊥
gate_no_go c n e = cc

once_in : (ns : List (List ℕ)) (n : List ℕ) → In n (once ns) → In n ns
once_in [] n i = i
once_in (m ∷ ns) n i = elim (true_or_false (list_any (same_go m) ns)) [
  | inl t ↦ inr (once_in ns n (rw t at i))
  | inr f ↦ elim (rw f at i) [ inl e ↦ inl e | inr k ↦ inr (once_in ns n k) ]
]

once_once : (ns : List (List ℕ)) → Distinct (once ns)
once_once [] = tt
once_once (m ∷ ns) = elim (true_or_false (list_any (same_go m) ns)) [
  | inl t ↦ rw t (once_once ns)
  | inr f ↦ rw f (λ i. none_in same_go go_is go_self m ns f (once_in ns m i), once_once ns)
]

channels_unseen : (seen : List ChName) (ws : List Wait) (c : ChName) → In c (channels_but seen ws) → In c seen → ⊥
channels_unseen seen [] c i j = i
channels_unseen seen (w ∷ ws) c i j = elim (true_or_false (list_any (same_channel (channel_of w)) seen)) [
  | inl t ↦ channels_unseen seen ws c (rw t at i) j
  | inr f ↦ elim (rw f at i) [
    | inl e ↦ none_in same_channel channel_is channel_self (channel_of w) seen f (subst (λ d. In d seen) e j)
    | inr k ↦ channels_unseen (channel_of w ∷ seen) ws c k (inr j)
  ]
]

channels_once : (seen : List ChName) (ws : List Wait) → Distinct (channels_but seen ws)
channels_once seen [] = tt
channels_once seen (w ∷ ws) = elim (true_or_false (list_any (same_channel (channel_of w)) seen)) [
  | inl t ↦ rw t (channels_once seen ws)
  | inr f ↦ rw f (λ i. channels_unseen (channel_of w ∷ seen) ws (channel_of w) i (inl refl), channels_once (channel_of w ∷ seen) ws)
]

gates_once : (seen : List ChName) (ws : List Wait) → Distinct (map Gate (channels_but seen ws))
gates_once seen ws = images_once Gate gate_name (channels_but seen ws) (channels_once seen ws)

-- who is woken, the gates of their other channels, and the gate itself
module _ (s : State) (c : ChName) where
  woken_once : (names : List (List ℕ)) → Distinct names → Distinct (woken s c names)
  woken_once names d = both_once (map Go names) (map Gate (channels_but (c ∷ []) _)) (images_once Go go_name names d) (gates_once (c ∷ []) _)
      (λ o i j. let g = In-of_map Go o names i in no_gate o (channels_but (c ∷ []) _) (λ d e. gate_no_go d g.0 (sym e ∙ g.2)) j)

  not_woken : (o : Object) (names : List (List ℕ)) → ((n : List ℕ) → o ≡ Go n → ⊥) → ((d : ChName) → o ≡ Gate d → d ≡ c)
      → In o (woken s c names) → ⊥
  not_woken o names go gate i = elim (In-append_cases o (map Go names) (map Gate (channels_but (c ∷ []) _)) i) [
    | inl j ↦ no_go o names go j
    | inr j ↦ let k = In-of_map Gate o (channels_but (c ∷ []) _) j in channels_unseen (c ∷ []) _ k.0 k.1 (inl (gate k.0 k.2))
  ]

  gate_not_woken : (names : List (List ℕ)) → In (Gate c) (woken s c names) → ⊥
  gate_not_woken names = not_woken (Gate c) names (gate_no_go c) (λ d e. sym (gate_name c d e))

  gate_and_woken : (names : List (List ℕ)) → Distinct names → Distinct (Gate c ∷ woken s c names)
  gate_and_woken names d = (gate_not_woken names, woken_once names d)

  pub slot_is : (o : Object) (k n : ℕ) → In o (slot_numbered c k n) → (j : ℕ) × (o ≡ Slot c j)
  slot_is o zero n i = absurd i
  slot_is o (suc k) n i = elim i [ inl e ↦ (_, e) | inr j ↦ absurd j ]

  slot_once : (k n : ℕ) → Distinct (slot_numbered c k n)
  slot_once zero n = tt
  slot_once (suc k) n = (λ i. i, tt)

  no_slot : (o : Object) (k n : ℕ) → ((j : ℕ) → o ≡ Slot c j → ⊥) → In o (slot_numbered c k n) → ⊥
  no_slot o k n h i = let j = slot_is o k n i in h j.0 j.1

  end_and_slot : (o : Object) (k n : ℕ) → ((j : ℕ) → o ≡ Slot c j → ⊥) → Distinct (o ∷ slot_numbered c k n)
  end_and_slot o k n h = (no_slot o k n h, slot_once k n)

  one_once : (names : List (List ℕ)) → Distinct (take 1 names)
  one_once [] = tt
  one_once (n ∷ ns) = (λ i. i, tt)

  -- a receive after which a sender moves up
  moved_once : (k n : ℕ) (names : List (List ℕ)) → Distinct names
      → Distinct (Gate c ∷ Head c ∷ Tail c ∷ slot_numbered c k n ++ woken s c names)
  moved_once k n names d = (
    λ i. elim i [
      | inl e ↦ cc
      | inr i ↦ elim i [ inl e ↦ cc | inr i ↦ apart (Gate c) (λ j e. cc) (λ m e. cc) (λ d e. sym (gate_name c d e)) i ]
    ],
    (
      λ i. elim i [ inl e ↦ cc | inr i ↦ apart (Head c) (λ j e. cc) (λ m e. cc) (λ d e. absurd cc) i ],
      (
        λ i. apart (Tail c) (λ j e. cc) (λ m e. cc) (λ d e. absurd cc) i,
        both_once (slot_numbered c k n) (woken s c names) (slot_once k n) (woken_once names d)
            (λ o i j. let at = slot_is o k n i in not_woken o names (λ m e. let q : Slot c at.0 ≡ Go m = sym at.1 ∙ e in cc) (λ d e. absurd (let q : Slot c at.0 ≡ Gate d = sym at.1 ∙ e in cc)) j),
      ),
    ),
  )
    where
      apart : (o : Object) → ((j : ℕ) → o ≡ Slot c j → ⊥) → ((m : List ℕ) → o ≡ Go m → ⊥) → ((d : ChName) → o ≡ Gate d → d ≡ c)
          → In o (slot_numbered c k n ++ woken s c names) → ⊥
      apart o h go gate i = elim (In-append_cases o (slot_numbered c k n) (woken s c names) i) [ inl j ↦ no_slot o k n h j | inr j ↦ not_woken o names go gate j ]

  taken_once : (names : List (List ℕ)) → Distinct (taken s c names).writes
  taken_once [] = end_and_slot (Head c) _ _ (λ j e. cc)
  taken_once (n ∷ ns) = moved_once _ _ (n ∷ []) (λ i. i, tt)

-- no row of the table has an object twice among its writes
channel_row : (s : State) (operation : Operation) (kind : Kind) → Distinct (with_channel s operation kind).writes
channel_row s (sends_on c) kinds.Hand = gate_and_woken s c (take 1 _) (one_once s c _)
channel_row s (sends_on c) kinds.Buffer = end_and_slot s c (Tail c) _ _ (λ j e. cc)
channel_row s (sends_on c) kinds.SendWait = (λ i. i, tt)
channel_row s (receives_from c) kinds.Take = taken_once s c _
channel_row s (receives_from c) kinds.Meet = gate_and_woken s c (take 1 _) (one_once s c _)
channel_row s (receives_from c) kinds.RecvWait = (λ i. i, tt)
channel_row s (closes c) kinds.Close = let names = senders_at (s.gates c) ++ receivers_at (s.gates c) in gate_and_woken s c (once names) (once_once names)
channel_row s (sends_on c) (kinds.Fault e) = (λ i. i, tt)
channel_row s (closes c) (kinds.Fault e) = (λ i. i, tt)
channel_row s (takes_len_of c) kinds.Length = tt
channel_row s (takes_cap_of c) kinds.Length = tt
channel_row s _ _ = tt

other_row : (s : State) (e : Event) (g : Goroutine) (kind : Kind) → Distinct (without_channel s e g kind).writes
other_row s e g kinds.Go = (λ i. i, tt)
other_row s e g kinds.Make = (λ i. i, tt)
other_row s e g kinds.SelectWait = gates_once [] _
other_row s e g kinds.Exit = (λ i. i, tt)
other_row s e g (kinds.Fault f) = (λ i. i, tt)
other_row s e g _ = tt

pub row_once : (s : State) (e : Event) (r : Report) (g : Option Goroutine) (o : Option Operation)
    → Distinct (row s e r g o).writes
row_once s e r g (Some operation) = channel_row s operation r.deed
row_once s e r (Some g) None = other_row s e g r.deed
row_once s e r None None = tt

-- each of some objects once
each_in : (seen os : List Object) (o : Object) → In o (each_once seen os) → In o os × (In o seen → ⊥)
each_in seen [] o i = absurd i
each_in seen (x ∷ xs) o i = elim (true_or_false (list_any (same x) seen)) [
  | inl t ↦ let h = each_in seen xs o (rw t at i) in (inr h.0, h.1)
  | inr f ↦ elim (rw f at i) [
    | inl e ↦ (inl e, λ j. none_in same same_is same_self x seen f (subst (λ y. In y seen) e j))
    | inr k ↦ let h = each_in (x ∷ seen) xs o k in (inr h.0, λ j. h.1 (inr j))
  ]
]

in_each : (seen os : List Object) (o : Object) → In o os → (In o seen → ⊥) → In o (each_once seen os)
in_each seen [] o i n = absurd i
in_each seen (x ∷ xs) o i n = elim (true_or_false (list_any (same x) seen)) [
  | inl t ↦ rw t (in_each seen xs o (elim i [ inl e ↦ absurd (n (subst (λ y. In y seen) (sym e) (any_in same same_is same_self x seen t))) | inr j ↦ j ]) n)
  | inr f ↦ rw f (elim (true_or_false (same o x)) [
    | inl q ↦ inl (same_is o x q)
    | inr q ↦ inr (in_each (x ∷ seen) xs o (elim i [ inl e ↦ absurd (other q e) | inr j ↦ j ]) (λ j. elim j [ inl e ↦ other q e | inr k ↦ n k ]))
  ])
]
  where
    other : same o x ≡ false → o ≡ x → ⊥
    other f e = let t : true ≡ false = sym (same_self x) ∙ ap (λ y. same y x) (sym e) ∙ f in cc

each_is_once : (seen os : List Object) → Distinct (each_once seen os)
each_is_once seen [] = tt
each_is_once seen (x ∷ xs) = elim (true_or_false (list_any (same x) seen)) [
  | inl t ↦ rw t (each_is_once seen xs)
  | inr f ↦ rw f (λ i. (each_in (x ∷ seen) xs x i).1 (inl refl), each_is_once (x ∷ seen) xs)
]

pub touched_each : (s : State) (e : Event) (n : Note Object Report) → AsTheTable s e n → Distinct n.writes
    → AreTouched (table s e n.kind) (read_only n) n.writes
touched_each s e n k d =
    let row = table s e n.kind in
    let same : (o : Object) → In o n.writes ↔ In o row.writes = λ o. (λ i. subst (In o) k.written i, λ i. subst (In o) (sym k.written) i) in record {
      written = same;
      read = λ o. (
        λ i. let h = each_in n.writes n.reads o i in (
          elim (In-append_cases o row.reads row.writes ((k.touched o).0 (In-append_left o n.reads n.writes h.0))) [ inl j ↦ j | inr j ↦ absurd (h.1 ((same o).1 j)) ],
          λ j. h.1 ((same o).1 j),
        ),
        λ h. let out : In o n.writes → ⊥ = λ j. h.1 ((same o).0 j) in
            elim (In-append_cases o n.reads n.writes ((k.touched o).1 (In-append_left o row.reads row.writes h.0))) [
              | inl j ↦ in_each n.writes n.reads o j out
              | inr j ↦ absurd (out j)
            ],
      );
      once = both_once (read_only n) n.writes (each_is_once n.writes n.reads) d (λ o i j. (each_in n.writes n.reads o i).1 j);
    }

-- lists that have the objects of the table's row tell what the note tells
pub told_alike : (s : State) (e : Event) (n : Note Object Report) (reads writes : List Object) → AsTheTable s e n
    → AreTouched (table s e n.kind) reads writes → TellTouches reads writes n
told_alike s e n reads writes k h =
    let row = table s e n.kind in
    let same : (o : Object) → In o writes ↔ In o n.writes = λ o. (λ i. subst (In o) (sym k.written) ((h.written o).0 i), λ i. (h.written o).1 (subst (In o) k.written i)) in record {
      written = same;
      touched = λ o. (
        λ i. elim (In-append_cases o reads writes i) [
          | inl j ↦ (k.touched o).1 (In-append_left o row.reads row.writes ((h.read o).0 j).0)
          | inr j ↦ In-append_right o n.reads n.writes ((same o).0 j)
        ],
        λ i. elim (in_or_not o writes) [
          | inl j ↦ In-append_right o reads writes j
          | inr out ↦ elim (In-append_cases o row.reads row.writes ((k.touched o).0 i)) [
            | inl j ↦ In-append_left o reads writes ((h.read o).1 (j, λ w. out ((h.written o).1 w)))
            | inr j ↦ absurd (out ((h.written o).1 j))
          ]
        ],
      );
    }
  where
    in_or_not : (o : Object) (os : List Object) → In o os ⊎ (In o os → ⊥)
    in_or_not o os = elim (true_or_false (list_any (same o) os)) [ inl t ↦ inl (any_in same same_is same_self o os t) | inr f ↦ inr (none_in same same_is same_self o os f) ]

pub meets_by : (os ps : List Object) → meets same os ps ≡ true → (o : Object) × In o os × In o ps
meets_by [] ps h = absurd (let e : false ≡ true = h in cc)
meets_by (o ∷ os) ps h = elim (or_true (list_any (same o) ps) (meets same os ps) h) [
  | inl t ↦ (o, inl refl, any_in same same_is same_self o ps t)
  | inr t ↦ let m = meets_by os ps t in (m.0, inr m.1, m.2)
]

pub meets_in : (os ps : List Object) (o : Object) → In o os → In o ps → meets same os ps ≡ true
meets_in [] ps o i j = absurd i
meets_in (x ∷ os) ps o i j = elim i [
  | inl e ↦ or_left (list_any (same x) ps) (meets same os ps) (in_any same same_is same_self x ps (subst (λ y. In y ps) e j))
  | inr k ↦ or_right (list_any (same x) ps) (meets same os ps) (meets_in os ps o k j)
]

as_true : (a b : Bool) → (a ≡ true → b ≡ true) → (b ≡ true → a ≡ true) → a ≡ b
as_true true b h k = sym (h refl)
as_true false true h k = k refl
as_true false false h k = refl

meets_alike : (os ps qs rs : List Object) → ((o : Object) → In o os ↔ In o qs) → ((o : Object) → In o ps ↔ In o rs)
    → meets same os ps ≡ meets same qs rs
meets_alike os ps qs rs f g = as_true _ _
    (λ t. let m = meets_by os ps t in meets_in qs rs m.0 ((f m.0).0 m.1) ((g m.0).0 m.2))
    (λ t. let m = meets_by qs rs t in meets_in os ps m.0 ((f m.0).1 m.1) ((g m.0).1 m.2))

-- lists that tell the touches of two steps tell whether they conflict
pub clash_by_lists : (p : Program) (a b : Logged p) (ra wa rb wb : List Object) → TellTouches ra wa a.note
    → TellTouches rb wb b.note
    → clash p a b ≡ (meets same wa (rb ++ wb) || meets same wb (ra ++ wa))
clash_by_lists p a b ra wa rb wb f g = sym (
    ap (λ x. x || meets same wb (ra ++ wa)) (meets_alike wa (rb ++ wb) a.note.writes (b.note.reads ++ b.note.writes) f.written g.touched)
    ∙ ap (λ x. meets same a.note.writes (b.note.reads ++ b.note.writes) || x) (meets_alike wb (ra ++ wa) b.note.writes (a.note.reads ++ a.note.writes) g.written f.touched))

-- a step writes no object twice
pub writes_once : (p : Program) (s t : State) (e : Event) (n : Note Object Report)
    → (machine p).step s e ≡ Some (t, n) → Distinct n.writes
writes_once p s t e n h =
    let written = (touched_as p s e t n h).written in
    let alone : In (Go e.go) (behind_first (table s e n.kind).writes) → ⊥ = subst (λ os. In (Go e.go) (behind_first os) → ⊥) written (stepped p s e t n h).alone in
    subst Distinct (sym written) (alone, row_once s e n.kind (s.goroutines e.go) n.kind.operation)
