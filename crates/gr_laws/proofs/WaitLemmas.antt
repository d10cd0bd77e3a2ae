-- Who stands in which queue, as waiters come and go. The crates above use these lemmas too.
use Rattle.std.proofs.Common.{fold, ◌≡◌, ◌⊎◌, ◌↔◌, ℕ, Bool, true, false, if◌then◌else◌, List, [], ◌∷◌, ◌++◌, map, Option, Some, None, refl, sym, ◌∙◌, ap, subst, inl, inr}
use Rattle.std.specs.List.{AllByRecursion, list_any}
use Rattle.gr_base.specs.declared.names.ChName.{ChName}
use Rattle.gr_base.specs.declared.values.Value.{Value}
use Rattle.gr_base.specs.declared.kinds.Fault.{Fault}
use Rattle.gr_base.specs.declared.objects.Object.{Object}
use Rattle.gr_causal.specs.Sequences.{In}
use Rattle.std.proofs.lemmas.Bool.{cases_Bool, or_cases}
use Rattle.gr_causal.proofs.ListLemmas.{In-append_cases, In-append_left, In-append_right}
use Rattle.gr_channels.specs.declared.waiter.Waiter.{Waiter}
use Rattle.gr_channels.specs.Objects.{GateContent}
use Rattle.gr_channels.specs.Queues.{others}
use Rattle.gr_rules.specs.Outcomes.{Outcome, gives, faults, wrong, ◌>>=◌}
use Rattle.gr_rules.specs.Operators.{same_channel}
use Rattle.gr_rules.specs.Deeds.{Communication, Sending, Receiving, Otherwise}
use Rattle.gr_rules.specs.Goroutines.{Wait, ToSend, ToReceive, channel_of}
use Rattle.gr_rules.specs.States.{Cell, State, same_go, same, object_of, look, put}
use Rattle.gr_rules.specs.Actors.{without, channels_but}
use Rattle.gr_rules.specs.Communications.{waits_for, all_waits, enqueued}
use Rattle.gr_rules.specs.Selects.{values_of}
use Rattle.gr_laws.specs.Soundness.{Stands}
use Rattle.gr_laws.proofs.CellLemmas.{go_is, go_self, channel_is, channel_self, same_is, same_self, put_here, put_else}

pub all_map : {A : Type 0} (P Q : A → Type 0) (xs : List A) → ((x : A) → P x → Q x) → AllByRecursion P xs → AllByRecursion Q xs
all_map P Q [] f h = tt
all_map P Q (x ∷ xs) f h = (f x h.0, all_map P Q xs f h.1)

pub all_append : {A : Type 0} (P : A → Type 0) (xs ys : List A) → AllByRecursion P xs → AllByRecursion P ys → AllByRecursion P (xs ++ ys)
all_append P [] ys g h = h
all_append P (x ∷ xs) ys g h = (g.0, all_append P xs ys g.1 h)

pub false_not : (b : Bool) → b ≡ true → b ≡ false → ⊥
false_not b t f = let e : true ≡ false = sym t ∙ f in cc

pub which_go : (n m : List ℕ) → (n ≡ m) ⊎ (n ≡ m → ⊥)
which_go n m = elim (cases_Bool (same_go n m)) [ inl e ↦ inl (go_is n m e) | inr e ↦ inr (λ q. false_not (same_go n m) (ap (λ x. same_go x m) q ∙ go_self m) e) ]

which_object : (o p : Object) → (o ≡ p) ⊎ (o ≡ p → ⊥)
which_object o p = elim (cases_Bool (same o p)) [ inl e ↦ inl (same_is o p e) | inr e ↦ inr (λ q. false_not (same o p) (ap (λ x. same x p) q ∙ same_self p) e) ]

pub known_go : (n : List ℕ) (ns : List (List ℕ)) → In n ns ⊎ (In n ns → ⊥)
known_go n [] = inr (λ i. i)
known_go n (m ∷ ns) = elim (which_go n m) [ inl e ↦ inl (inl e) | inr other ↦ elim (known_go n ns) [ inl i ↦ inl (inr i) | inr none ↦ inr (elim [ inl e ↦ other e | inr i ↦ none i ]) ] ]

pub known_object : (o : Object) (os : List Object) → In o os ⊎ (In o os → ⊥)
known_object o [] = inr (λ i. i)
known_object o (p ∷ os) = elim (which_object o p) [ inl e ↦ inl (inl e) | inr other ↦ elim (known_object o os) [ inl i ↦ inl (inr i) | inr none ↦ inr (elim [ inl e ↦ other e | inr i ↦ none i ]) ] ]

-- what holds of each cell that is written holds of an object of theirs after it, and of others where it held before
pub settled : (P : Cell → Type 0) (o : Object) (s : State) (cells : List Cell) → AllByRecursion P cells → In o (map object_of cells) ⊎ P (look s o) → P (look (fold put s cells) o)
settled P o s [] h (inl i) = absurd i
settled P o s [] h (inr p) = p
settled P o s (x ∷ cells) h q = settled P o (put s x) cells h.1 (elim (which_object o (object_of x)) [
  | inl e ↦ inr (subst (λ o. P (look (put s x) o)) (sym e) (subst P (sym (put_here s x)) h.0))
  | inr n ↦ elim q [
    | inl i ↦ elim i [ inl e ↦ absurd (n e) | inr j ↦ inl j ]
    | inr p ↦ inr (subst P (sym (put_else s x o n)) p)
  ]
])

-- the waiters of other goroutines
pub others_step : {X : Type 0} (name : List ℕ) (y : Waiter X) (ys : List (Waiter X)) (b : Bool) → same_go y.go name ≡ b → others name (y ∷ ys) ≡ (if b then others name ys else y ∷ others name ys)
others_step name y ys true e = rw e refl
others_step name y ys false e = rw e refl

pub in_others : {X : Type 0} (name : List ℕ) (ys : List (Waiter X)) (x : Waiter X) → In x (others name ys) → In x ys × (x.go ≡ name → ⊥)
in_others name [] x i = absurd i
in_others {X} name (y ∷ ys) x i = elim (cases_Bool (same_go y.go name)) [
  | inl e ↦ let r = in_others name ys x (subst (In x) (others_step name y ys true e) i) in (inr r.0, r.1)
  | inr e ↦ elim (subst (In x) (others_step name y ys false e) i) [
    | inl q ↦ (inl q, λ m. false_not (same_go y.go name) (ap (λ (z : Waiter X). same_go z.go name) (sym q) ∙ ap (λ n. same_go n name) m ∙ go_self name) e)
    | inr j ↦ let r = in_others name ys x j in (inr r.0, r.1)
  ]
]

others_in : {X : Type 0} (name : List ℕ) (ys : List (Waiter X)) (x : Waiter X) → In x ys → (x.go ≡ name → ⊥) → In x (others name ys)
others_in name [] x i n = absurd i
others_in {X} name (y ∷ ys) x i n = elim (cases_Bool (same_go y.go name)) [
  | inl e ↦ elim i [
    | inl q ↦ absurd (n (ap (λ (z : Waiter X). z.go) q ∙ go_is y.go name e))
    | inr j ↦ subst (In x) (sym (others_step name y ys true e)) (others_in name ys x j n)
  ]
  | inr e ↦ subst (In x) (sym (others_step name y ys false e)) (elim i [ inl q ↦ inl q | inr j ↦ inr (others_in name ys x j n) ])
]

one_less : (gate : GateContent) (m n : List ℕ) (w : Wait)
    → Stands (Some (record gate { senders = others m gate.senders; receivers = others m gate.receivers })) n w ↔ (Stands (Some gate) n w × (n ≡ m → ⊥))
one_less gate m n (ToSend c i) = (
  λ h. let r = in_others m gate.senders h.0 h.1 in ((h.0, r.0, h.2, h.3), λ e. r.1 (h.2 ∙ e)),
  λ h. (h.0.0, others_in m gate.senders h.0.0 h.0.1 (λ e. h.1 (sym h.0.2 ∙ e)), h.0.2, h.0.3),
)
one_less gate m n (ToReceive c i) = (
  λ h. let r = in_others m gate.receivers h.0 h.1 in ((h.0, r.0, h.2, h.3), λ e. r.1 (h.2 ∙ e)),
  λ h. (h.0.0, others_in m gate.receivers h.0.0 h.0.1 (λ e. h.1 (sym h.0.2 ∙ e)), h.0.2, h.0.3),
)

-- who stands in a gate without some
pub stands_without : (names : List (List ℕ)) (gate : GateContent) (n : List ℕ) (w : Wait) → Stands (Some (without names gate)) n w ↔ (Stands (Some gate) n w × (In n names → ⊥))
stands_without [] gate n w = (λ h. (h, λ i. i), λ h. h.0)
stands_without (m ∷ names) gate n w =
    let rest = stands_without names (record gate { senders = others m gate.senders; receivers = others m gate.receivers }) n w in
    let one = one_less gate m n w in (
      λ h. let r = rest.0 h in let o = one.0 r.0 in (o.0, elim [ inl e ↦ o.1 e | inr i ↦ r.1 i ]),
      λ h. rest.1 (one.1 (h.0, λ e. h.1 (inl e)), λ i. h.1 (inr i)),
    )

-- the value to send, if it is one, is there
abbrev pub Known : Communication → Type 0
Known (Sending (Some c) (gives v)) = Unit {0}
Known (Sending (Some c) _) = ⊥
Known _ = Unit {0}

pub sent_known : (c : Option ChName) (v : Value) → Known (Sending c (gives v))
sent_known None v = tt
sent_known (Some c) v = tt

no_fault : {A : Type 0} (e : Fault) (x : A) → faults e ≡ gives x → ⊥
no_fault f x e = cc

no_wrong : {A : Type 0} (x : A) → wrong ≡ gives x → ⊥
no_wrong x e = cc

-- where all values to send are there
pub known_values : (cs : List Communication) (vs : List Value) → values_of cs ≡ gives vs → AllByRecursion Known cs
known_values [] vs e = tt
known_values (Sending c (gives v) ∷ cs) vs e = (sent_known c v, by_rest (known_values cs) (values_of cs) refl e)
  where
    by_rest : ((xs : List Value) → values_of cs ≡ gives xs → AllByRecursion Known cs) → (x : Outcome (List Value)) → values_of cs ≡ x → (x >>= λ xs. gives (v ∷ xs)) ≡ gives vs → AllByRecursion Known cs
    by_rest ih (gives xs) d g = ih xs d
    by_rest ih (faults f) d g = absurd (no_fault f _ g)
    by_rest ih wrong d g = absurd (no_wrong _ g)
known_values (Sending c (faults f) ∷ cs) vs e = absurd (no_fault f _ e)
known_values (Sending c wrong ∷ cs) vs e = absurd (no_wrong _ e)
known_values (Receiving (Some c) initial ∷ cs) vs e = (tt, known_values cs vs e)
known_values (Receiving None initial ∷ cs) vs e = (tt, known_values cs vs e)
known_values (Otherwise ∷ cs) vs e = (tt, known_values cs vs e)

not_alike : (c d : ChName) (i j : Option ℕ) → ToSend c i ≡ ToReceive d j → ⊥
not_alike c d i j e = cc

clause_is : (c d : ChName) (i j : Option ℕ) → ToSend c i ≡ ToSend d j → i ≡ j
clause_is c d i j e = cc

clause_is' : (c d : ChName) (i j : Option ℕ) → ToReceive c i ≡ ToReceive d j → i ≡ j
clause_is' c d i j e = cc

pub stands_enqueued : (name : List ℕ) (c : ChName) (gate : GateContent) (clause : Option ℕ) (x : Communication) → Known x → (n : List ℕ) (w : Wait) → channel_of w ≡ c
    → Stands (Some (enqueued name c gate clause x)) n w ↔ (Stands (Some gate) n w ⊎ ((n ≡ name) × In w (waits_for clause x)))
stands_enqueued name c gate clause (Sending (Some d) (gives v)) k n w at = by_same (same_channel c d) refl w at
  where
    by_same : (t : Bool) → same_channel c d ≡ t → (w : Wait) → channel_of w ≡ c
        → Stands (Some (if t then record gate { senders = gate.senders ++ record { go = name; case = clause; value = v } ∷ [] } else gate)) n w ↔ (Stands (Some gate) n w ⊎ ((n ≡ name) × In w (ToSend d clause ∷ [])))
    by_same true e (ToSend b i) at = (
      λ h. elim (In-append_cases h.0 gate.senders (record { go = name; case = clause; value = v } ∷ []) h.1) [
        | inl j ↦ inl (h.0, j, h.2, h.3)
        | inr j ↦ elim j [
          | inl q ↦ inr (sym h.2 ∙ ap (λ (z : Waiter Value). z.go) q, inl (ap (λ z. ToSend z i) (at ∙ channel_is c d e) ∙ ap (ToSend d) (sym h.3 ∙ ap (λ (z : Waiter Value). z.case) q)))
          | inr z ↦ absurd z
        ]
      ],
      elim [
        | inl h ↦ (h.0, In-append_left h.0 gate.senders (record { go = name; case = clause; value = v } ∷ []) h.1, h.2, h.3)
        | inr h ↦ elim h.1 [
          | inl q ↦ (record { go = name; case = clause; value = v }, In-append_right _ gate.senders (record { go = name; case = clause; value = v } ∷ []) (inl refl), sym h.0, sym (clause_is b d i clause q))
          | inr z ↦ absurd z
        ]
      ],
    )
    by_same true e (ToReceive b i) at = (λ h. inl h, elim [ inl h ↦ h | inr h ↦ elim h.1 [ inl q ↦ absurd (not_alike d b clause i (sym q)) | inr z ↦ absurd z ] ])
    by_same false e w at = (
      λ h. inl h,
      elim [
        | inl h ↦ h
        | inr h ↦ elim h.1 [ inl q ↦ absurd (false_not (same_channel c d) (ap (same_channel c) (sym (ap channel_of q) ∙ at) ∙ channel_self c) e) | inr z ↦ absurd z ]
      ],
    )
stands_enqueued name c gate clause (Sending (Some d) (faults f)) k n w at = absurd k
stands_enqueued name c gate clause (Sending (Some d) wrong) k n w at = absurd k
stands_enqueued name c gate clause (Sending None v) k n w at = (λ h. inl h, elim [ inl h ↦ h | inr h ↦ absurd h.1 ])
stands_enqueued name c gate clause (Receiving (Some d) initial) k n w at = by_same (same_channel c d) refl w at
  where
    by_same : (t : Bool) → same_channel c d ≡ t → (w : Wait) → channel_of w ≡ c
        → Stands (Some (if t then record gate { receivers = gate.receivers ++ record { go = name; case = clause; value = tt } ∷ [] } else gate)) n w ↔ (Stands (Some gate) n w ⊎ ((n ≡ name) × In w (ToReceive d clause ∷ [])))
    by_same true e (ToReceive b i) at = (
      λ h. elim (In-append_cases h.0 gate.receivers (record { go = name; case = clause; value = tt } ∷ []) h.1) [
        | inl j ↦ inl (h.0, j, h.2, h.3)
        | inr j ↦ elim j [
          | inl q ↦ inr (sym h.2 ∙ ap (λ (z : Waiter (Unit {0})). z.go) q, inl (ap (λ z. ToReceive z i) (at ∙ channel_is c d e) ∙ ap (ToReceive d) (sym h.3 ∙ ap (λ (z : Waiter (Unit {0})). z.case) q)))
          | inr z ↦ absurd z
        ]
      ],
      elim [
        | inl h ↦ (h.0, In-append_left h.0 gate.receivers (record { go = name; case = clause; value = tt } ∷ []) h.1, h.2, h.3)
        | inr h ↦ elim h.1 [
          | inl q ↦ (record { go = name; case = clause; value = tt }, In-append_right _ gate.receivers (record { go = name; case = clause; value = tt } ∷ []) (inl refl), sym h.0, sym (clause_is' b d i clause q))
          | inr z ↦ absurd z
        ]
      ],
    )
    by_same true e (ToSend b i) at = (λ h. inl h, elim [ inl h ↦ h | inr h ↦ elim h.1 [ inl q ↦ absurd (not_alike b d i clause q) | inr z ↦ absurd z ] ])
    by_same false e w at = (
      λ h. inl h,
      elim [
        | inl h ↦ h
        | inr h ↦ elim h.1 [ inl q ↦ absurd (false_not (same_channel c d) (ap (same_channel c) (sym (ap channel_of q) ∙ at) ∙ channel_self c) e) | inr z ↦ absurd z ]
      ],
    )
stands_enqueued name c gate clause (Receiving None initial) k n w at = (λ h. inl h, elim [ inl h ↦ h | inr h ↦ absurd h.1 ])
stands_enqueued name c gate clause Otherwise k n w at = (λ h. inl h, elim [ inl h ↦ h | inr h ↦ absurd h.1 ])

-- who stands in a gate in which a goroutine came to wait
pub stands_all : (name : List ℕ) (c : ChName) (gate : GateContent) (ws : List (Option ℕ × Communication)) → AllByRecursion (λ w. Known w.1) ws → (n : List ℕ) (w : Wait) → channel_of w ≡ c
    → Stands (Some (fold (λ gate w. enqueued name c gate w.0 w.1) gate ws)) n w ↔ (Stands (Some gate) n w ⊎ ((n ≡ name) × In w (all_waits ws)))
stands_all name c gate [] k n w at = (λ h. inl h, elim [ inl h ↦ h | inr h ↦ absurd h.1 ])
stands_all name c gate (x ∷ ws) k n w at =
    let rest = stands_all name c (enqueued name c gate x.0 x.1) ws k.1 n w at in
    let one = stands_enqueued name c gate x.0 x.1 k.0 n w at in (
      λ h. elim (rest.0 h) [
        | inl p ↦ elim (one.0 p) [ inl q ↦ inl q | inr q ↦ inr (q.0, In-append_left w (waits_for x.0 x.1) (all_waits ws) q.1) ]
        | inr p ↦ inr (p.0, In-append_right w (waits_for x.0 x.1) (all_waits ws) p.1)
      ],
      elim [
        | inl p ↦ rest.1 (inl (one.1 (inl p)))
        | inr p ↦ elim (In-append_cases w (waits_for x.0 x.1) (all_waits ws) p.1) [ inl i ↦ rest.1 (inl (one.1 (inr (p.0, i)))) | inr i ↦ rest.1 (inr (p.0, i)) ]
      ],
    )

of_any : (c : ChName) (cs : List ChName) → list_any (same_channel c) cs ≡ true → In c cs
of_any c [] e = absurd (false_not (list_any (same_channel c) []) e refl)
of_any c (d ∷ cs) e = elim (or_cases (same_channel c d) (list_any (same_channel c) cs) e) [ inl q ↦ inl (channel_is c d q) | inr q ↦ inr (of_any c cs q) ]

-- the channels of waits, and the waits of channels
pub covered : (seen : List ChName) (ws : List Wait) (w : Wait) → In w ws → In (channel_of w) seen ⊎ In (channel_of w) (channels_but seen ws)
covered seen [] w i = absurd i
covered seen (x ∷ ws) w i = by_seen (covered seen ws w) (covered (channel_of x ∷ seen) ws w) (list_any (same_channel (channel_of x)) seen) refl
  where
    by_seen : (In w ws → In (channel_of w) seen ⊎ In (channel_of w) (channels_but seen ws))
        → (In w ws → In (channel_of w) (channel_of x ∷ seen) ⊎ In (channel_of w) (channels_but (channel_of x ∷ seen) ws)) → (b : Bool) → list_any (same_channel (channel_of x)) seen ≡ b
        → In (channel_of w) seen ⊎ In (channel_of w) (if b then channels_but seen ws else channel_of x ∷ channels_but (channel_of x ∷ seen) ws)
    by_seen p q true e = elim i [ inl k ↦ inl (subst (λ z. In (channel_of z) seen) (sym k) (of_any (channel_of x) seen e)) | inr j ↦ p j ]
    by_seen p q false e = elim i [ inl k ↦ inr (inl (ap channel_of k)) | inr j ↦ elim (q j) [ inl r ↦ elim r [ inl k ↦ inr (inl k) | inr m ↦ inl m ] | inr r ↦ inr (inr r) ] ]

pub some_wait : (seen : List ChName) (ws : List Wait) (c : ChName) → In c (channels_but seen ws) → (w : Wait) × In w ws × (channel_of w ≡ c)
some_wait seen [] c i = absurd i
some_wait seen (x ∷ ws) c i = by_seen (some_wait seen ws c) (some_wait (channel_of x ∷ seen) ws c) (list_any (same_channel (channel_of x)) seen) i
  where
    by_seen : (In c (channels_but seen ws) → (w : Wait) × In w ws × (channel_of w ≡ c)) → (In c (channels_but (channel_of x ∷ seen) ws) → (w : Wait) × In w ws × (channel_of w ≡ c))
        → (b : Bool) → In c (if b then channels_but seen ws else channel_of x ∷ channels_but (channel_of x ∷ seen) ws) → (w : Wait) × In w (x ∷ ws) × (channel_of w ≡ c)
    by_seen p q true i = let r = p i in (r.0, inr r.1, r.2)
    by_seen p q false i = elim i [ inl e ↦ (x, inl refl, sym e) | inr j ↦ let r = q j in (r.0, inr r.1, r.2) ]
