-- What a step changed is among what it touched: changes of gates, after one more change or none.
use Rattle.std.proofs.Common.{◌≡◌, ℕ, zero, suc, ◌<◌, ◌%◌, ◌==◌, Bool, true, false, not, ◌&&◌, ◌||◌, if◌then◌else◌, List, [], ◌∷◌, ◌++◌, map, length, Option, Some, None}
use Rattle.std.proofs.Common.{refl, sym, ap, subst, ◌∙◌, arith, inl, inr, eqb-true, eq-eqb, option_map}
use Rattle.std.specs.List.{list_any}
use Rattle.std.proofs.lemmas.Bool.{cases_Bool, and_parts, and_from, or_cases}
use Rattle.std.proofs.lemmas.List.Folds.{list_any-append}
use Rattle.gr_base.specs.declared.names.ChName.{ChName}
use Rattle.gr_base.specs.declared.objects.Object.{Object}
use Rattle.gr_base.specs.declared.objects.Object.TheVariants.{Gate, Go, Head, Run, Slot, Tail}
use Rattle.gr_channels.specs.declared.changes.ChanUndo.{ChanUndo}
use Rattle.gr_channels.specs.declared.changes.ChanUndo.TheVariants.{Handed, Buffered, Took, Moved, Met, ParkedSender, ParkedReceiver, Withdrawn, Closed}
use Rattle.gr_base.specs.declared.values.Value.{Value}
use Rattle.gr_channels.specs.Channels.{Content, IsChannel, tail_of}
use Rattle.gr_channels.specs.Changes.{undone}
use Rattle.gr_channels.specs.Objects.{Part, is_gate, is_written}
use Rattle.gr_channels.specs.Objects as parts
use Rattle.gr_rules.specs.Actors.{channels_but}
use Rattle.gr_rules.specs.Goroutines.{Wait, channel_of}
use Rattle.gr_rules.specs.Operators.{same_channel}
use Rattle.gr_rules.specs.States.{same, same_go}
use Rattle.gr_rules.specs.Touches.{slot_numbered}
use Rattle.gr_refine.specs.Contents.{Contents}
use Rattle.gr_refine.specs.NamedBack.{at_channel}
use Rattle.gr_refine.specs.Partners.{AreChannels}
use Rattle.gr_refine.specs.TakingBack.{part_of, all_undone, any_written}
use Rattle.gr_refine.specs.Written.{written_objects, AreAmong}
use Rattle.gr_refine.proofs.MeetingLemmas.{named}
use Rattle.gr_refine.proofs.NameLemmas.{channel_is, channel_self, go_self}
use Rattle.gr_refine.proofs.WrittenLemmas.{written_parts_are_named, full_slots_meet}
use Rattle.gr_goros.specs.declared.undo.GoUndo.{GoUndo}
use Rattle.gr_tables.specs.NamedChannels.{chan_back, is_at_gate, AreAtGates, MoreAtGates}
use Rattle.gr_record.specs.Effects.{Effect}
use Rattle.gr_step.specs.Preparing.{AreToLeave}
use Rattle.gr_record.specs.Records.{writes_of}
use Rattle.gr_record.specs.Within.{IsAmong, EachIsAmong, PartsAreAmong}

-- what a step changed beyond its goroutine is among what it touched
pub record Inside (n : List ℕ) (reads writes : List Object) (met : List (List ℕ × GoUndo)) (us : List (ChName × ChanUndo)) (t : Contents) : Type 0 where
  pub goroutines : EachIsAmong Go met (Go n ∷ writes)
  pub gates : EachIsAmong Gate us (Run ∷ reads ++ (Go n ∷ writes))
  pub parts : PartsAreAmong us t.channels (Go n ∷ writes)
  pub valid : AreChannels t

pub some_is : {X : Type 0} {y z : X} → Some y ≡ Some z → y ≡ z
some_is {X} {y} h = ap (λ o. elim o [ Some w ↦ w | None ↦ y ]) h

pub or_true : (b : Bool) → (b || true) ≡ true
or_true true = refl
or_true false = refl

pub or_assoc : (a b c : Bool) → ((a || b) || c) ≡ (a || (b || c))
or_assoc true b c = refl
or_assoc false b c = refl

-- changes of gates among more
pub gates_widen : (names more : List ChName) (us : List (ChName × ChanUndo))
    → ((d : ChName) → list_any (same_channel d) names ≡ true → list_any (same_channel d) more ≡ true) → AreAtGates names us → AreAtGates more us
gates_widen names more [] h gates = tt
gates_widen names more (u ∷ us) h gates = (gates.0, h u.0 gates.1, gates_widen names more us h gates.2)

-- what is among objects is among more
pub more_after : (o : Object) (os ps : List Object) → IsAmong o os → IsAmong o (os ++ ps)
more_after o os ps h = list_any-append (same o) os ps ∙ ap (λ b. b || list_any (same o) ps) h

pub more_before : (o : Object) (os ps : List Object) → IsAmong o ps → IsAmong o (os ++ ps)
more_before o os ps h = list_any-append (same o) os ps ∙ ap (λ b. list_any (same o) os || b) h ∙ or_true (list_any (same o) os)

pub first_among : (n : List ℕ) (os : List Object) → IsAmong (Go n) (Go n ∷ os)
first_among n os = ap (λ b. b || list_any (same (Go n)) os) (go_self n)

pub own_is_written : (n : List ℕ) (c : Effect) → IsAmong (Go n) (writes_of n c)
own_is_written n c = rw (go_self n) refl

pub gate_first : (c : ChName) (os : List Object) → IsAmong (Gate c) (Gate c ∷ os)
gate_first c os = ap (λ b. b || list_any (same (Gate c)) os) (channel_self c)

-- a gate among gates, and a goroutine among goroutines
pub gate_of_name : (d : ChName) (cs : List ChName) → list_any (same (Gate d)) (map Gate cs) ≡ list_any (same_channel d) cs
gate_of_name d [] = refl
gate_of_name d (c ∷ cs) = ap (λ b. same_channel d c || b) (gate_of_name d cs)

-- a channel among those of waits
pub named_in : (d : ChName) (ws : List Wait) → list_any (same_channel d) (map channel_of ws) ≡ list_any (λ w. same_channel d (channel_of w)) ws
named_in d [] = refl
named_in d (w ∷ ws) = ap (λ b. same_channel d (channel_of w) || b) (named_in d ws)

-- goroutines with these names
pub met_among : (met : List (List ℕ × GoUndo)) (names : List (List ℕ)) (os : List Object) → map (λ e. e.0) met ≡ names
    → ((q : List ℕ) → list_any (same_go q) names ≡ true → IsAmong (Go q) os) → EachIsAmong Go met os
met_among met names os are held = walk met (λ q h. held q (ap (list_any (same_go q)) (sym are) ∙ h))
  where
    walk : (es : List (List ℕ × GoUndo)) → ((q : List ℕ) → list_any (same_go q) (map (λ e. e.0) es) ≡ true → IsAmong (Go q) os) → EachIsAmong Go es os
    walk [] h = tt
    walk (e ∷ es) h = (
      h e.0 (ap (λ b. b || list_any (same_go e.0) (map (λ e. e.0) es)) (go_self e.0)),
      walk es (λ q k. h q (ap (λ b. same_go q e.0 || b) k ∙ or_true (same_go q e.0))),
    )

pub go_of_name : (q : List ℕ) (names : List (List ℕ)) → list_any (same (Go q)) (map Go names) ≡ list_any (same_go q) names
go_of_name q [] = refl
go_of_name q (n ∷ ns) = ap (λ b. same_go q n || b) (go_of_name q ns)

-- such a change wrote the gate
gate_alone : (u : ChanUndo) (x : Content) (p : Part) → is_at_gate u ≡ true → is_written u x p ≡ true → is_gate p ≡ true
gate_alone (Handed w) x p gate e = e
gate_alone Buffered x p gate e = absurd (let no : false ≡ true = gate in cc)
gate_alone (Took v) x p gate e = absurd (let no : false ≡ true = gate in cc)
gate_alone (Moved item go case) x p gate e = absurd (let no : false ≡ true = gate in cc)
gate_alone (Met w) x p gate e = e
gate_alone ParkedSender x p gate e = e
gate_alone ParkedReceiver x p gate e = e
gate_alone (Withdrawn s r) x p gate e = (and_parts _ _ e).0
gate_alone (Closed s r) x p gate e = e

the_gate : (p : Part) → is_gate p ≡ true → p ≡ parts.Gate
the_gate parts.Gate e = refl
the_gate parts.Tail e = absurd (let no : false ≡ true = e in cc)
the_gate parts.Head e = absurd (let no : false ≡ true = e in cc)
the_gate (parts.Slot i) e = absurd (let no : false ≡ true = e in cc)

module _ (names : List ChName) (os : List Object) (held : (d : ChName) → list_any (same_channel d) names ≡ true → IsAmong (Gate d) os) where
  at_part : (d : ChName) (p : Part) → is_gate p ≡ true → list_any (same_channel d) names ≡ true → IsAmong (part_of d p) os
  at_part d p gate name = subst {_, _} (λ (q : Part). IsAmong (part_of d q) os) (sym (the_gate p gate)) (held d name)

  pub gates_named : (us : List (ChName × ChanUndo)) → AreAtGates names us → EachIsAmong Gate us os
  gates_named [] h = tt
  gates_named (e ∷ es) h = (held e.0 h.1, gates_named es h.2)

  pub gates_inside : (us : List (ChName × ChanUndo)) (d : ChName) (b : Content) (p : Part) → AreAtGates names us
      → any_written (at_channel d us) b p ≡ true → IsAmong (part_of d p) os
  gates_inside [] d b p h w = absurd (let no : false ≡ true = w in cc)
  gates_inside (e ∷ es) d b p h w = elim (cases_Bool (same_channel d e.0)) [
    | inl t ↦
        let here : any_written (e.1 ∷ at_channel d es) b p ≡ true =
        sym (ap (λ k. any_written (if k then e.1 ∷ at_channel d es else at_channel d es) b p) t) ∙ w in
        let x = undone e.1 (all_undone (at_channel d es) b) in
        elim (or_cases (is_written e.1 x p) (any_written (at_channel d es) b p) here) [
          | inl now ↦ at_part d p (gate_alone e.1 x p h.0 now) (ap (λ k. list_any (same_channel k) names) (channel_is d e.0 t) ∙ h.1)
          | inr later ↦ gates_inside es d b p h.2 later
        ]
    | inr n ↦ gates_inside es d b p h.2 (sym (ap (λ k. any_written (if k then e.1 ∷ at_channel d es else at_channel d es) b p) n) ∙ w)
  ]

  -- one change of any kind comes first
  module _ (c : ChName) (u : ChanUndo) (x : Content) (f : ChName → Option Content) (more : List (ChName × ChanUndo))
      (back : chan_back ((c, u) ∷ more) c (f c) ≡ Some x) (among : AreAmong (written_objects c u x) os) (gates : AreAtGates names more) where
    back_of_some : (es : List (ChName × ChanUndo)) (d : ChName) (y : Content) → chan_back es d (Some y) ≡ Some (all_undone (at_channel d es) y)
    back_of_some [] d y = refl
    back_of_some (e ∷ es) d y = elim (cases_Bool (same_channel d e.0)) [
      | inl t ↦ rw t (ap (option_map (undone e.1)) (back_of_some es d y))
      | inr n ↦ rw n (back_of_some es d y)
    ]

    before_is : (b : Content) → f c ≡ Some b → undone u (all_undone (at_channel c more) b) ≡ x
    before_is b is = some_is (
        sym (ap (option_map (undone u)) (back_of_some more c b))
        ∙ sym (ap (λ k. if k then option_map (undone u) (chan_back more c (Some b)) else chan_back more c (Some b)) (channel_self c))
        ∙ ap (chan_back ((c, u) ∷ more) c) (sym is) ∙ back)

    pub first_inside : PartsAreAmong ((c, u) ∷ more) f os
    first_inside d b p is w = elim (cases_Bool (same_channel d c)) [
      | inl t ↦
          let here : any_written (u ∷ at_channel d more) b p ≡ true =
          sym (ap (λ k. any_written (if k then u ∷ at_channel d more else at_channel d more) b p) t) ∙ w in
          let same_d = channel_is d c t in
          let y = undone u (all_undone (at_channel d more) b) in
          elim (or_cases (is_written u y p) (any_written (at_channel d more) b p) here) [
            | inl now ↦
                let at_c : is_written u x p ≡ true =
                sym (ap (λ y. is_written u y p) (ap (λ k. undone u (all_undone (at_channel k more) b)) same_d ∙ before_is b (ap f (sym same_d) ∙ is))) ∙ now in
                subst {_, _} (λ k. IsAmong (part_of k p) os) (sym same_d) (written_parts_are_named c u x os among p at_c)
            | inr later ↦ gates_inside more d b p gates later
          ]
      | inr n ↦ gates_inside more d b p gates (sym (ap (λ k. any_written (if k then u ∷ at_channel d more else at_channel d more) b p) n) ∙ w)
    ]

-- such a change of a gate among the objects
pub gate_is_among : (c : ChName) (u : ChanUndo) (x : Content) (os : List Object) → is_at_gate u ≡ true → IsAmong (Gate c) os
    → AreAmong (written_objects c u x) os
gate_is_among c (Handed w) x os gate h = (h, tt)
gate_is_among c Buffered x os gate h = absurd (let no : false ≡ true = gate in cc)
gate_is_among c (Took v) x os gate h = absurd (let no : false ≡ true = gate in cc)
gate_is_among c (Moved item go case) x os gate h = absurd (let no : false ≡ true = gate in cc)
gate_is_among c (Met w) x os gate h = (h, tt)
gate_is_among c ParkedSender x os gate h = (h, tt)
gate_is_among c ParkedReceiver x os gate h = (h, tt)
gate_is_among c (Withdrawn s r) x os gate h = (h, tt)
gate_is_among c (Closed s r) x os gate h = (h, tt)

-- the slot of a number, where there is one
pub slot_among : (c : ChName) (capacity n : ℕ) → 0 < capacity → IsAmong (Slot c (n % capacity)) (slot_numbered c capacity n)
slot_among c zero n some = absurd (omega (arith, some))
slot_among c (suc k) n some =
    ap (λ b. b || false) (and_from (same_channel c c) ((n % suc k) == (n % suc k)) (channel_self c) (eq-eqb (n % suc k) (n % suc k) refl))

-- the channels that a goroutine is to leave are the one where it was met and the others on which it waits
pub left_is_among : (names : List ChName) (c : ChName) (ws : List Wait) (os : List Object) → AreToLeave names c ws → IsAmong (Gate c) os
    → ((d : ChName) → IsAmong (Gate d) (map Gate (channels_but (c ∷ []) ws)) → IsAmong (Gate d) os)
    → (d : ChName) → list_any (same_channel d) names ≡ true → IsAmong (Gate d) os
left_is_among names c ws os leave here others d among = elim (cases_Bool (same_channel d c)) [
  | inl t ↦ subst {_, _} (λ k. IsAmong (Gate k) os) (sym (channel_is d c t)) here
  | inr f ↦ others d (gate_of_name d (channels_but (c ∷ []) ws) ∙ named d (c ∷ []) ws
      ∙ ap (λ b. not (b || false) && list_any (λ w. same_channel d (channel_of w)) ws) f ∙ waits f)
]
  where
    waits : same_channel d c ≡ false → list_any (λ w. same_channel d (channel_of w)) ws ≡ true
    waits f = elim (cases_Bool (length ws == 1)) [
      | inl one ↦ absurd (let no : false ≡ true = ap (list_any (same_channel d)) (sym (leave.alone (eqb-true (length ws) 1 one))) ∙ among in cc)
      | inr some ↦ sym (leave.otherwise (λ e. let no : true ≡ false = sym (eq-eqb (length ws) 1 e) ∙ some in cc) d ∙ ap (λ b. b || list_any (λ w. same_channel d (channel_of w)) ws) f) ∙ among
    ]

among_more : (ps os ms : List Object) → ((o : Object) → IsAmong o os → IsAmong o ms) → AreAmong ps os → AreAmong ps ms
among_more [] os ms h among = tt
among_more (p ∷ ps) os ms h among = (h p among.0, among_more ps os ms h among.1)

-- a buffer that has room, that is full of some items, and that holds some, has a capacity
pub has_places : (x : Content) → length x.items < x.capacity → 0 < x.capacity
has_places x room = omega (arith, room)

pub has_capacity : (x : Content) (v : Value) (rest : List Value) → x.items ≡ v ∷ rest → length x.items ≡ x.capacity → 0 < x.capacity
has_capacity x v rest items full = let count = ap (λ (vs : List Value). length vs) items in omega (arith, count, full)

pub holds_items : (x : Content) → IsChannel x → (v : Value) (rest : List Value) → x.items ≡ v ∷ rest → 0 < x.capacity
holds_items x valid v rest items = let count = ap (λ (vs : List Value). length vs) items in let most = valid.within in omega (arith, count, most)

-- what values that enter and leave a buffer write
pub buffered_among : (c : ChName) (x : Content) → 0 < x.capacity
    → AreAmong (written_objects c Buffered x) (Tail c ∷ slot_numbered c x.capacity (tail_of x))
buffered_among c x some = (
  ap (λ b. b || list_any (same (Tail c)) (slot_numbered c x.capacity (tail_of x))) (channel_self c),
  (slot_among c x.capacity (tail_of x) some, tt),
)

pub took_among : (c : ChName) (v : Value) (x : Content) → 0 < x.capacity
    → AreAmong (written_objects c (Took v) x) (Head c ∷ slot_numbered c x.capacity x.head)
took_among c v x some = (
  ap (λ b. b || list_any (same (Head c)) (slot_numbered c x.capacity x.head)) (channel_self c),
  (slot_among c x.capacity x.head some, tt),
)

pub moved_among : (c : ChName) (item : Value) (go : List ℕ) (case : Option ℕ) (x : Content) → 0 < x.capacity → length x.items ≡ x.capacity
    → AreAmong (written_objects c (Moved item go case) x) (Gate c ∷ Head c ∷ Tail c ∷ slot_numbered c x.capacity x.head)
moved_among c item go case x some full =
    let slots = slot_numbered c x.capacity x.head in (
      gate_first c (Head c ∷ Tail c ∷ slots),
      (
        ap (λ b. b || list_any (same (Tail c)) slots) (channel_self c),
        (
          ap (λ b. b || list_any (same (Head c)) (Tail c ∷ slots)) (channel_self c),
          (
            slot_among c x.capacity x.head some,
            (subst {_, _} (λ k. IsAmong (Slot c k) slots) (sym (full_slots_meet x full)) (slot_among c x.capacity x.head some), tt),
          ),
        ),
      ),
    )

-- one change of a channel, or none
pub none_inside : (n : List ℕ) (reads : List Object) (us : List (ChName × ChanUndo)) (t : Contents) → us ≡ [] → AreChannels t → Inside n reads [] [] us t
none_inside n reads us t none valid = record {
  goroutines = tt;
  gates = subst {_, _} (λ vs. EachIsAmong Gate vs (Run ∷ reads ++ (Go n ∷ []))) (sym none) tt;
  parts = subst {_, _} (λ vs. PartsAreAmong vs t.channels (Go n ∷ [])) (sym none) (λ d b q is w. absurd (let no : false ≡ true = w in cc));
  valid = valid;
}

pub one_inside : (n : List ℕ) (reads writes : List Object) (c : ChName) (u : ChanUndo) (x : Content) (us : List (ChName × ChanUndo)) (s t : Contents)
    → us ≡ (c, u) ∷ [] → s.channels c ≡ Some x → ((q : ChName) → chan_back us q (t.channels q) ≡ s.channels q) → IsAmong (Gate c) reads
    → AreAmong (written_objects c u x) writes → AreChannels t → Inside n reads writes [] us t
one_inside n reads writes c u x us s t one made back gate among valid =
    let os = Go n ∷ writes in
    record {
      goroutines = tt;
      gates = subst {_, _} (λ vs. EachIsAmong Gate vs (Run ∷ reads ++ os)) (sym one)
          (more_before (Gate c) (Run ∷ []) (reads ++ os) (more_after (Gate c) reads os gate), tt);
      parts = subst {_, _} (λ vs. PartsAreAmong vs t.channels os) (sym one)
          (first_inside [] os (λ d h. absurd (let no : false ≡ true = h in cc)) c u x t.channels []
          (ap (λ vs. chan_back vs c (t.channels c)) (sym one) ∙ back c ∙ made)
          (among_more (written_objects c u x) writes os (λ o h. more_before o (Go n ∷ []) writes h) among) tt);
      valid = valid;
    }

-- a goroutine that was met, after a change of the channel
pub met_inside : (n m : List ℕ) (met : GoUndo) (c : ChName) (ws : List Wait) (reads touched : List Object) (names : List ChName) (u : ChanUndo) (x : Content)
    (us : List (ChName × ChanUndo)) (s t : Contents) → AreToLeave names c ws → MoreAtGates names ((c, u) ∷ []) us → s.channels c ≡ Some x
    → ((q : ChName) → chan_back us q (t.channels q) ≡ s.channels q) → IsAmong (Gate c) touched → AreAmong (written_objects c u x) touched → AreChannels t
    → Inside n reads (touched ++ (Go m ∷ map Gate (channels_but (c ∷ []) ws))) ((m, met) ∷ []) us t
met_inside n m met c ws reads touched names u x us s t leave gates made back gate among valid =
    let rest = Go m ∷ map Gate (channels_but (c ∷ []) ws) in
    let os = Go n ∷ (touched ++ rest) in
    let within : (o : Object) → IsAmong o touched → IsAmong o os = λ o h. more_before o (Go n ∷ []) (touched ++ rest) (more_after o touched rest h) in
    let held = left_is_among names c ws os leave (within (Gate c) gate) (λ d h. more_before (Gate d) (Go n ∷ touched) rest h) in
    record {
      goroutines = (more_before (Go m) (Go n ∷ touched) rest (first_among m (map Gate (channels_but (c ∷ []) ws))), tt);
      gates = subst {_, _} (λ vs. EachIsAmong Gate vs (Run ∷ reads ++ os)) (sym gates.are) (
        more_before (Gate c) (Run ∷ reads) os (within (Gate c) gate),
        gates_named names (Run ∷ reads ++ os) (λ d h. more_before (Gate d) (Run ∷ reads) os (held d h)) gates.more gates.at_gates,
      );
      parts = subst {_, _} (λ vs. PartsAreAmong vs t.channels os) (sym gates.are)
          (first_inside names os held c u x t.channels gates.more (ap (λ vs. chan_back vs c (t.channels c)) (sym gates.are) ∙ back c ∙ made)
          (among_more (written_objects c u x) touched os within among) gates.at_gates);
      valid = valid;
    }
