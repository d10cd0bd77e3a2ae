-- A step is taken back wherever what it wrote stands.
use Rattle.std.proofs.Common.{◌≡◌, ◌⊎◌, Bool, true, false, ◌||◌, List, [], ◌∷◌, length, Option, Some, None, option_map, refl, sym, ◌∙◌, ap, inl, inr, arith}
use Rattle.std.specs.List.{list_any}
use Rattle.std.proofs.lemmas.Bool.{cases_Bool, or_parts, or_left, or_right}
use Rattle.gr_base.specs.declared.names.ChName.{ChName}
use Rattle.gr_base.specs.declared.values.Value.{Value}
use Rattle.gr_base.specs.declared.objects.Object.{Object}
use Rattle.gr_base.specs.declared.objects.Object.TheVariants as objects
use Rattle.gr_channels.specs.declared.changes.ChanUndo.{ChanUndo}
use Rattle.gr_channels.specs.declared.changes.ChanUndo.TheVariants.{Handed, Buffered, Took, Moved, Met, ParkedSender, ParkedReceiver, Withdrawn, Closed}
use Rattle.gr_channels.specs.Channels.{Content, tail_of}
use Rattle.gr_channels.specs.Changes.{undone}
use Rattle.gr_channels.specs.Objects.{GateContent, gate_of, slot_of, slot_from, Part, SameAt, is_written, Changes}
use Rattle.gr_channels.specs.Objects as parts
use Rattle.gr_channels.proofs.Undoing.{taken_back, same_self}
use Rattle.gr_rules.specs.Frames.{Frame}
use Rattle.gr_rules.specs.States.{Cell, run_has, go_has, gate_has, tail_has, head_has, slot_has, same, look}
use Rattle.gr_code.specs.CodeFrames.{CodeFrame}
use Rattle.gr_refine.specs.Contents.{Contents, goroutine_of, state_of}
use Rattle.gr_code.specs.Goroutines.{CodeGoroutine}
use Rattle.gr_refine.specs.TakingBack.{part_of, all_undone, any_written, ChangesGoBackAnywhere, ChannelBack, untouched, changed, unmade, TakesBack, TakingBackPutsBack}
use Rattle.gr_refine.proofs.ChangeLemmas.{gate_at, tail_at, head_at, slots_at}
use Rattle.gr_refine.proofs.StateLemmas.{gate_is, tail_is, head_is, slot_is, contents_are_put_back}

-- that two contents have the same in an object
same_back : (p : Part) (a b : Content) → SameAt p a b → SameAt p b a
same_back parts.Gate a b e = sym e
same_back parts.Tail a b e = sym e
same_back parts.Head a b e = sym e
same_back (parts.Slot i) a b e = sym e

same_on : (p : Part) (a b c : Content) → SameAt p a b → SameAt p b c → SameAt p a c
same_on parts.Gate a b c d e = d ∙ e
same_on parts.Tail a b c d e = d ∙ e
same_on parts.Head a b c d e = d ∙ e
same_on (parts.Slot i) a b c d e = d ∙ e

capacity_undone : (u : ChanUndo) (x : Content) → (undone u x).capacity ≡ x.capacity
capacity_undone (Handed w) x = refl
capacity_undone Buffered x = refl
capacity_undone (Took v) x = refl
capacity_undone (Moved item go case) x = refl
capacity_undone (Met w) x = refl
capacity_undone ParkedSender x = refl
capacity_undone ParkedReceiver x = refl
capacity_undone (Withdrawn s r) x = refl
capacity_undone (Closed s r) x = refl

capacity_all : (us : List ChanUndo) (x : Content) → (all_undone us x).capacity ≡ x.capacity
capacity_all [] x = refl
capacity_all (u ∷ us) x = capacity_undone u (all_undone us x) ∙ capacity_all us x

pub changes_go_back_anywhere : ChangesGoBackAnywhere
changes_go_back_anywhere [] b x valid fits later capacity stands =
    record { fits = tt; valid = later; written = λ p e. absurd (let no : false ≡ true = e in cc); kept = λ p e. same_self p x }
changes_go_back_anywhere (u ∷ us) b x valid fits later capacity stands =
    let mid = all_undone us b in
    let now = all_undone us x in
    let own = changes_go_back_anywhere us b b valid (fits.1) valid refl (λ p e. same_self p b) in
    let rest = changes_go_back_anywhere us b x valid (fits.1) later capacity (λ p e. stands p (or_right _ _ e)) in
    let change : Changes u (undone u mid) mid = record { valid = own.valid; back = refl; fits = fits.0 } in
    let there : (p : Part) → is_written u (undone u mid) p ≡ true → SameAt p now mid = λ p e. elim (cases_Bool (any_written us b p)) [
      | inl w ↦ rest.written p w
      | inr k ↦ same_on p now x mid (rest.kept p k) (same_on p x b mid (stands p (or_left _ _ e)) (same_back p mid b (own.kept p k)))
    ] in
    let back = taken_back u (undone u mid) mid now change rest.valid (capacity_all us x ∙ capacity ∙ sym (capacity_all us b)) there in
    let before = taken_back u (undone u mid) mid mid change own.valid refl (λ p e. same_self p mid) in
    record {
      fits = (back.fits, rest.fits);
      valid = back.valid;
      written = λ p e. elim (cases_Bool (is_written u (undone u mid) p)) [
        | inl w ↦ back.written p w
        | inr k ↦ same_on p (undone u now) now (undone u mid) (back.kept p k)
            (same_on p now mid (undone u mid) (rest.written p (second _ _ e k)) (same_back p (undone u mid) mid (before.kept p k)))
      ];
      kept = λ p e. let parts = or_parts _ _ e in same_on p (undone u now) now x (back.kept p (parts.0)) (rest.kept p (parts.1));
    }
  where
    second : (a b : Bool) → (a || b) ≡ true → a ≡ false → b ≡ true
    second true b h f = absurd (let no : true ≡ false = f in cc)
    second false b h f = h

-- a part of a channel that may be there
abbrev pub part_look : ChName → Part → Option Content → Cell
part_look c parts.Gate o = gate_has c (gate_at o)
part_look c parts.Tail o = tail_has c (tail_at o)
part_look c parts.Head o = head_has c (head_at o)
part_look c (parts.Slot i) o = slot_has c i (slots_at o i)

pub part_looked : (frame : CodeFrame → Frame) (s : Contents) (c : ChName) (p : Part) → look (state_of frame s) (part_of c p) ≡ part_look c p (s.channels c)
part_looked frame s c parts.Gate = refl
part_looked frame s c parts.Tail = refl
part_looked frame s c parts.Head = refl
part_looked frame s c (parts.Slot i) = refl

looks_same : (c : ChName) (p : Part) (a b : Content) → SameAt p a b → part_look c p (Some a) ≡ part_look c p (Some b)
looks_same c parts.Gate a b e = ap (λ g. gate_has c (Some g)) e
looks_same c parts.Tail a b e = ap (tail_has c) e
looks_same c parts.Head a b e = ap (head_has c) e
looks_same c (parts.Slot i) a b e = ap (slot_has c i) e

some_gate : (x y : GateContent) → Some x ≡ Some y → x ≡ y
some_gate x y e = cc

pub same_looks : (c : ChName) (p : Part) (a b : Content) → part_look c p (Some a) ≡ part_look c p (Some b) → SameAt p a b
same_looks c parts.Gate a b e = some_gate _ _ (gate_is c _ _ e)
same_looks c parts.Tail a b e = tail_is c _ _ e
same_looks c parts.Head a b e = head_is c _ _ e
same_looks c (parts.Slot i) a b e = slot_is c i _ _ e

-- a channel that was made, and into which nothing has entered, is as none but for its gate
as_none : (c : ChName) (p : Part) (x : Content) → x.head ≡ 0 → x.items ≡ [] → (p ≡ parts.Gate → ⊥) → part_look c p None ≡ part_look c p (Some x)
as_none c parts.Gate x head items other = absurd (other refl)
as_none c parts.Tail x head items other = let tail : 0 ≡ tail_of x = omega (arith, ap (λ (vs : List Value). length vs) items) in ap (tail_has c) tail
as_none c parts.Head x head items other = ap (head_has c) (sym head)
as_none c (parts.Slot i) x head items other = ap (λ (vs : List Value). slot_has c i (slot_from x.capacity i x.head vs)) (sym items)

gate_or_not : (p : Part) → (p ≡ parts.Gate) ⊎ (p ≡ parts.Gate → ⊥)
gate_or_not parts.Gate = inl refl
gate_or_not parts.Tail = inr (λ e. cc)
gate_or_not parts.Head = inr (λ e. cc)
gate_or_not (parts.Slot i) = inr (λ e. cc)

module _ (os : List Object) (c : ChName) (p : Part) where
  abbrev among : Bool
  among = list_any (same (part_of c p)) os

  part_back : (before after later back : Option Content) → ChannelBack os c before after later back
      → ((q : Part) → list_any (same (part_of c q)) os ≡ true → part_look c q later ≡ part_look c q after)
      → (among ≡ true → part_look c p back ≡ part_look c p before) × (among ≡ false → part_look c p back ≡ part_look c p later)
  part_back before after later back (untouched same_before same_later) stands = (
    λ e. ap (part_look c p) same_later ∙ stands p e ∙ ap (part_look c p) (sym same_before),
    λ e. ap (part_look c p) same_later,
  )
  part_back before after later back (changed us b x is_after is_later is_before is_back valid fits now capacity names) stands =
      let there : (q : Part) → any_written us b q ≡ true → SameAt q x b = λ q e.
      same_looks c q x b (ap (part_look c q) (sym is_later) ∙ stands q (names q e) ∙ ap (part_look c q) is_after) in
      let all = changes_go_back_anywhere us b x valid fits now capacity there in
      let own = changes_go_back_anywhere us b b valid fits valid refl (λ q e. same_self q b) in
      let kept : any_written us b p ≡ false → part_look c p back ≡ part_look c p later = λ k.
      ap (part_look c p) is_back ∙ looks_same c p (all_undone us x) x (all.kept p k) ∙ ap (part_look c p) (sym is_later) in (
        λ e. elim (cases_Bool (any_written us b p)) [
          | inl w ↦ ap (part_look c p) is_back ∙ looks_same c p (all_undone us x) (all_undone us b) (all.written p w) ∙ ap (part_look c p) (sym is_before)
          | inr k ↦ kept k ∙ stands p e ∙ ap (part_look c p) is_after
              ∙ looks_same c p b (all_undone us b) (same_back p (all_undone us b) b (own.kept p k)) ∙ ap (part_look c p) (sym is_before)
        ],
        λ e. elim (cases_Bool (any_written us b p)) [
          | inl w ↦ absurd (let no : true ≡ false = sym (names p w) ∙ e in cc)
          | inr k ↦ kept k
        ],
      )
  part_back before after later back (unmade x is_before is_back is_later head items gate) stands = (
    λ e. ap (part_look c p) (is_back ∙ sym is_before),
    λ e. elim (gate_or_not p) [
      | inl is ↦ absurd (let no : true ≡ false = sym gate ∙ ap (λ (q : Part). list_any (same (part_of c q)) os) (sym is) ∙ e in cc)
      | inr other ↦ ap (part_look c p) is_back ∙ as_none c p x head items other ∙ ap (part_look c p) (sym is_later)
    ],
  )

module _ (frame : CodeFrame → Frame) (os : List Object) (before after later back : Contents) (takes : TakesBack frame os before after later back) where
  abbrev seen : Contents → Object → Cell
  seen s o = look (state_of frame s) o

  channel_part : (c : ChName) (p : Part) → (list_any (same (part_of c p)) os ≡ true → seen back (part_of c p) ≡ seen before (part_of c p))
      × (list_any (same (part_of c p)) os ≡ false → seen back (part_of c p) ≡ seen later (part_of c p))
  channel_part c p =
      let at = part_back os c p (before.channels c) (after.channels c) (later.channels c) (back.channels c) (takes.channel c)
      (λ q e. sym (part_looked frame later c q) ∙ takes.stands (part_of c q) e ∙ part_looked frame after c q) in (
        λ e. part_looked frame back c p ∙ at.0 e ∙ sym (part_looked frame before c p),
        λ e. part_looked frame back c p ∙ at.1 e ∙ sym (part_looked frame later c p),
      )

  written_back : (o : Object) → list_any (same o) os ≡ true → seen back o ≡ seen before o
  written_back objects.Run e = ap run_has (takes.run_back e)
  written_back (objects.Go n) e = ap (λ (x : Option CodeGoroutine). go_has n (option_map (goroutine_of frame) x)) (takes.goroutine_back n e)
  written_back (objects.Gate c) e = (channel_part c parts.Gate).0 e
  written_back (objects.Tail c) e = (channel_part c parts.Tail).0 e
  written_back (objects.Head c) e = (channel_part c parts.Head).0 e
  written_back (objects.Slot c i) e = (channel_part c (parts.Slot i)).0 e

  other_kept : (o : Object) → list_any (same o) os ≡ false → seen back o ≡ seen later o
  other_kept objects.Run e = ap run_has (takes.run_kept e)
  other_kept (objects.Go n) e = ap (λ (x : Option CodeGoroutine). go_has n (option_map (goroutine_of frame) x)) (takes.goroutine_kept n e)
  other_kept (objects.Gate c) e = (channel_part c parts.Gate).1 e
  other_kept (objects.Tail c) e = (channel_part c parts.Tail).1 e
  other_kept (objects.Head c) e = (channel_part c parts.Head).1 e
  other_kept (objects.Slot c i) e = (channel_part c (parts.Slot i)).1 e

pub taking_back_puts_back : TakingBackPutsBack
taking_back_puts_back frame os before after later back takes =
    contents_are_put_back (state_of frame before) (state_of frame later) (state_of frame back) os
    (written_back frame os before after later back takes) (other_kept frame os before after later back takes)
