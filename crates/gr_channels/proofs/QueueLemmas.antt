-- How withdrawn waiters go back, one at a time.
use Rattle.std.proofs.Common.{◌≡◌, inl, inr, ℕ, ◌+◌, ◌-◌, ◌<◌, ◌≤◌, List, [], ◌∷◌, ◌++◌, length, refl, ap, sym, ◌∙◌, subst, arith, add-zero, length-append, append_assoc, append-nil, if◌then◌else◌}
use Rattle.std.proofs.lemmas.Bool.{cases_Bool}
use Rattle.std.specs.Prelude.{insert, not, true, false, filter, suc, count_by}
use Rattle.std.proofs.lemmas.List.Filters.{length-filter_both}
use Rattle.std.proofs.lemmas.List.Sums.{length-filter}
use Rattle.gr_channels.specs.declared.waiter.Waiter.{Waiter}
use Rattle.gr_channels.specs.Queues.{is_of, others, restored, PlacesFit}

-- the one that was removed last goes back first
pub restored-last : {X : Type 0} → (rs : List (ℕ × Waiter X)) (r : ℕ × Waiter X) (ws : List (Waiter X)) → restored (rs ++ r ∷ []) ws ≡ restored rs (insert ws r.0 r.1)
restored-last [] r ws = refl
restored-last (q ∷ rs) r ws = ap (λ xs. insert xs q.0 q.1) (restored-last rs r ws)

pub PlacesFit-last : {X : Type 0} → (rs : List (ℕ × Waiter X)) (r : ℕ × Waiter X) (ws : List (Waiter X)) → PlacesFit (rs ++ r ∷ []) ws → (r.0 ≤ length ws) × PlacesFit rs (insert ws r.0 r.1)
PlacesFit-last [] r ws h = h
PlacesFit-last (q ∷ rs) r ws h =
    let rest = PlacesFit-last rs r ws h.1 in
    (rest.0, (subst (λ xs. q.0 ≤ length xs) (restored-last rs r ws) h.0, rest.1))

pub PlacesFit-more : {X : Type 0} → (rs : List (ℕ × Waiter X)) (r : ℕ × Waiter X) (ws : List (Waiter X)) → r.0 ≤ length ws → PlacesFit rs (insert ws r.0 r.1) → PlacesFit (rs ++ r ∷ []) ws
PlacesFit-more [] r ws h k = (h, tt)
PlacesFit-more (q ∷ rs) r ws h k = (subst (λ xs. q.0 ≤ length xs) (sym (restored-last rs r ws)) k.0, PlacesFit-more rs r ws h k.1)

pub back_first : {X : Type 0} → (gone rs : List (ℕ × Waiter X)) (r : ℕ × Waiter X) (ws : List (Waiter X)) → gone ≡ rs ++ r ∷ [] → restored gone ws ≡ restored rs (insert ws r.0 r.1)
back_first gone rs r ws e = ap (λ g. restored g ws) e ∙ restored-last rs r ws

pub fit_first : {X : Type 0} → (gone rs : List (ℕ × Waiter X)) (r : ℕ × Waiter X) (ws : List (Waiter X)) → gone ≡ rs ++ r ∷ [] → PlacesFit gone ws → (r.0 ≤ length ws) × PlacesFit rs (insert ws r.0 r.1)
fit_first gone rs r ws e fit = PlacesFit-last rs r ws (subst (λ g. PlacesFit g ws) e fit)

-- the first one goes back to the front
pub emptied_more : {X : Type 0} → (gone more : List (ℕ × Waiter X)) (ws rest : List (Waiter X)) (w : Waiter X) → more ≡ gone ++ (0, w) ∷ [] → ws ≡ w ∷ rest → restored more rest ≡ restored gone ws
emptied_more gone more ws rest w e f = ap (λ g. restored g rest) e ∙ restored-last gone (0, w) rest ∙ ap (restored gone) (sym f)

pub emptied_fit : {X : Type 0} → (gone more : List (ℕ × Waiter X)) (ws rest : List (Waiter X)) (w : Waiter X) → more ≡ gone ++ (0, w) ∷ [] → ws ≡ w ∷ rest → PlacesFit gone ws → PlacesFit more rest
emptied_fit gone more ws rest w e f fit = subst (λ g. PlacesFit g rest) (sym e) (PlacesFit-more gone (0, w) rest (omega arith) (subst (PlacesFit gone) f fit))

-- the goroutine's waiters, each with how many others stand before it, where as many have stood before the list
pub gathered : {X : Type 0} → List ℕ → ℕ → List (Waiter X) → List (ℕ × Waiter X)
gathered name at [] = []
gathered name at (w ∷ ws) = if is_of name w then (at, w) ∷ gathered name at ws else gathered name (at + 1) ws

gathered-append : {X : Type 0} → (name : List ℕ) (at : ℕ) (xs ys : List (Waiter X)) → gathered name at (xs ++ ys) ≡ gathered name at xs ++ gathered name (at + length (others name xs)) ys
unfolding gathered
gathered-append name at [] ys = rw add-zero refl
gathered-append name at (x ∷ xs) ys =
    elim (cases_Bool (is_of name x)) [
      | inl is ↦ rw is (ap (λ l. (at, x) ∷ l) (gathered-append name at xs ys))
      | inr other ↦
          let shift : at + 1 + length (others name xs) ≡ at + suc (length (others name xs)) = omega arith in
          rw other (gathered-append name (at + 1) xs ys ∙ ap (λ k. gathered name (at + 1) xs ++ gathered name k ys) shift)
    ]

length-gathered : {X : Type 0} → (name : List ℕ) (at : ℕ) (ws : List (Waiter X)) → length (gathered name at ws) ≡ length (filter (is_of name) ws)
unfolding gathered
length-gathered name at [] = refl
length-gathered name at (w ∷ ws) = elim (cases_Bool (is_of name w)) [
  | inl is ↦ rw is (ap suc (length-gathered name at ws))
  | inr other ↦ rw other (length-gathered name (at + 1) ws)
]

lengths_both : {X : Type 0} → (name : List ℕ) (at : ℕ) (ws : List (Waiter X)) → length (gathered name at ws) + length (others name ws) ≡ length ws
lengths_both name at ws = rw (length-gathered name at ws) (length-filter_both (is_of name) (λ w. not (is_of name w)) (λ w. refl) ws)

insert-middle : {X : Type 0} → (xs ys : List X) (x : X) → insert (xs ++ ys) (length xs) x ≡ xs ++ x ∷ ys
insert-middle [] ys x = refl
insert-middle (z ∷ zs) ys x = ap (λ l. z ∷ l) (insert-middle zs ys x)

others-append : {X : Type 0} → (name : List ℕ) (xs ys : List (Waiter X)) → others name (xs ++ ys) ≡ others name xs ++ others name ys
others-append name [] ys = refl
others-append name (x ∷ xs) ys = elim (cases_Bool (is_of name x)) [
  | inl is ↦ rw is (others-append name xs ys)
  | inr other ↦ rw other (ap (λ l. x ∷ l) (others-append name xs ys))
]

-- put back among the others, after those that stood before, they make the whole list
gathered_back : {X : Type 0} → (name : List ℕ) (pre ws : List (Waiter X)) → restored (gathered name (length pre) ws) (pre ++ others name ws) ≡ pre ++ ws
unfolding gathered
gathered_back name pre [] = refl
gathered_back name pre (w ∷ ws) = elim (cases_Bool (is_of name w)) [
  | inl is ↦
      let rest : restored (gathered name (length pre) ws) (pre ++ others name ws) ≡ pre ++ ws = gathered_back name pre ws in
      rw is (ap (λ l. insert l (length pre) w) rest ∙ insert-middle pre ws w)
  | inr other ↦
      let long : length (pre ++ w ∷ []) ≡ length pre + 1 = length-append pre (w ∷ []) in
      let rest = gathered_back name (pre ++ w ∷ []) ws in
      let moved : restored (gathered name (length pre + 1) ws) ((pre ++ w ∷ []) ++ others name ws) ≡ (pre ++ w ∷ []) ++ ws =
      ap (λ k. restored (gathered name k ws) ((pre ++ w ∷ []) ++ others name ws)) (sym long) ∙ rest in
      rw other (ap (restored (gathered name (length pre + 1) ws)) (sym (append_assoc pre (w ∷ []) (others name ws))) ∙ moved ∙ append_assoc pre (w ∷ []) ws)
]

-- each place is within
gathered_fit : {X : Type 0} → (name : List ℕ) (pre ws : List (Waiter X)) → PlacesFit (gathered name (length pre) ws) (pre ++ others name ws)
unfolding gathered
gathered_fit name pre [] = tt
gathered_fit name pre (w ∷ ws) = elim (cases_Bool (is_of name w)) [
  | inl is ↦
      let within : length pre ≤ length (restored (gathered name (length pre) ws) (pre ++ others name ws)) =
      rw (gathered_back name pre ws) (omega (arith, length-append pre ws)) in
      rw is (within, gathered_fit name pre ws)
  | inr other ↦
      let long : length (pre ++ w ∷ []) ≡ length pre + 1 = length-append pre (w ∷ []) in
      let rest = gathered_fit name (pre ++ w ∷ []) ws in
      let moved : PlacesFit (gathered name (length pre + 1) ws) ((pre ++ w ∷ []) ++ others name ws) =
      subst (λ k. PlacesFit (gathered name k ws) ((pre ++ w ∷ []) ++ others name ws)) long rest in
      rw other (subst (PlacesFit (gathered name (length pre + 1) ws)) (append_assoc pre (w ∷ []) (others name ws)) moved)
]

-- after n turns of the list: those that passed stand behind those that wait, the goroutine's are gathered
pub record Rotated {X : Type 0} (name : List ℕ) (n : ℕ) (old now : List (Waiter X)) (gone : List (ℕ × Waiter X)) : Type 0 where
  pub passed : List (Waiter X)
  pub waiting : List (Waiter X)
  pub whole : old ≡ passed ++ waiting
  pub stands : now ≡ waiting ++ others name passed
  pub taken : gone ≡ gathered name 0 passed
  pub turns : length passed ≡ n

pub rotated_start : {X : Type 0} → (name : List ℕ) (old : List (Waiter X)) → Rotated name 0 old old []
unfolding gathered
rotated_start name old = record { passed = []; waiting = old; whole = refl; stands = sym (append-nil old); taken = refl; turns = refl }

cons_head : {X : Type 0} {x y : X} {xs ys : List X} → x ∷ xs ≡ y ∷ ys → x ≡ y
cons_head e = cc

cons_tail : {X : Type 0} {x y : X} {xs ys : List X} → x ∷ xs ≡ y ∷ ys → xs ≡ ys
cons_tail e = cc

-- the one that stands in front is the next that waits
out : {X : Type 0} → (name : List ℕ) (n : ℕ) (old now rest : List (Waiter X)) (gone : List (ℕ × Waiter X)) (w : Waiter X) (passed waiting : List (Waiter X))
    → old ≡ passed ++ waiting → now ≡ waiting ++ others name passed → gone ≡ gathered name 0 passed → length passed ≡ n → n < length old → now ≡ w ∷ rest → is_of name w ≡ true
    → Rotated name (n + 1) old rest (gone ++ (n - length gone, w) ∷ [])
unfolding gathered
out name n old now rest gone w passed [] whole stands taken turns less front is =
    let long : length old ≡ length passed = ap length (whole ∙ append-nil passed) in
    absurd (omega arith)
out {X = X} name n old now rest gone w passed (x ∷ after) whole stands taken turns less front is =
    let both : x ∷ (after ++ others name passed) ≡ w ∷ rest = sym stands ∙ front in
    let first : x ≡ w = cons_head both in
    let none : others name (w ∷ []) ≡ [] = rw is refl in
    let kept : others name (passed ++ w ∷ []) ≡ others name passed = others-append name passed (w ∷ []) ∙ ap (λ l. others name passed ++ l) none ∙ append-nil (others name passed) in
    let lengths : length (gathered name 0 passed) + length (others name passed) ≡ length passed = lengths_both name 0 passed in
    let count : length gone ≡ length (gathered name 0 passed) = ap length taken in
    let place : 0 + length (others name passed) ≡ n - length gone = omega arith in
    let one : gathered name (0 + length (others name passed)) (w ∷ []) ≡ (n - length gone, w) ∷ [] = rw (is, place) refl in
    record {
      passed = passed ++ w ∷ [];
      waiting = after;
      whole = whole ∙ ap (λ y. passed ++ y ∷ after) first ∙ sym (append_assoc passed (w ∷ []) after);
      stands = sym (cons_tail both) ∙ ap (λ l. after ++ l) (sym kept);
      taken = ap (λ l. l ++ (n - length gone, w) ∷ []) taken ∙ ap (λ l. gathered name 0 passed ++ l) (sym one) ∙ sym (gathered-append name 0 passed (w ∷ []));
      turns = omega (arith, length-append passed (w ∷ []));
    }

stay : {X : Type 0} → (name : List ℕ) (n : ℕ) (old now rest : List (Waiter X)) (gone : List (ℕ × Waiter X)) (w : Waiter X) (passed waiting : List (Waiter X))
    → old ≡ passed ++ waiting → now ≡ waiting ++ others name passed → gone ≡ gathered name 0 passed → length passed ≡ n → n < length old → now ≡ w ∷ rest → is_of name w ≡ false
    → Rotated name (n + 1) old (rest ++ w ∷ []) gone
unfolding gathered
stay name n old now rest gone w passed [] whole stands taken turns less front is =
    let long : length old ≡ length passed = ap length (whole ∙ append-nil passed) in
    absurd (omega arith)
stay {X = X} name n old now rest gone w passed (x ∷ after) whole stands taken turns less front is =
    let both : x ∷ (after ++ others name passed) ≡ w ∷ rest = sym stands ∙ front in
    let first : x ≡ w = cons_head both in
    let one : others name (w ∷ []) ≡ w ∷ [] = rw is refl in
    let kept : others name (passed ++ w ∷ []) ≡ others name passed ++ w ∷ [] = others-append name passed (w ∷ []) ∙ ap (λ l. others name passed ++ l) one in
    let none : gathered name (0 + length (others name passed)) (w ∷ []) ≡ [] = rw is refl in
    record {
      passed = passed ++ w ∷ [];
      waiting = after;
      whole = whole ∙ ap (λ y. passed ++ y ∷ after) first ∙ sym (append_assoc passed (w ∷ []) after);
      stands = ap (λ l. l ++ w ∷ []) (sym (cons_tail both)) ∙ append_assoc after (others name passed) (w ∷ []) ∙ ap (λ l. after ++ l) (sym kept);
      taken = taken ∙ sym (append-nil (gathered name 0 passed)) ∙ ap (λ l. gathered name 0 passed ++ l) (sym none) ∙ sym (gathered-append name 0 passed (w ∷ []));
      turns = omega (arith, length-append passed (w ∷ []));
    }

-- the goroutine's waiter is taken out
pub rotated_out : {X : Type 0} → (name : List ℕ) (n place : ℕ) (old now rest : List (Waiter X)) (gone : List (ℕ × Waiter X)) (w : Waiter X) → Rotated name n old now gone → n < length old → now ≡ w ∷ rest → is_of name w ≡ true
    → place ≡ n - length gone → Rotated name (n + 1) old rest (gone ++ (place, w) ∷ [])
rotated_out name n place old now rest gone w r less front is at =
    subst (λ p. Rotated name (n + 1) old rest (gone ++ (p, w) ∷ [])) (sym at) (out name n old now rest gone w r.passed r.waiting (r.whole) (r.stands) (r.taken) (r.turns) less front is)

-- another one goes behind
pub rotated_stay : {X : Type 0} → (name : List ℕ) (n : ℕ) (old now rest : List (Waiter X)) (gone : List (ℕ × Waiter X)) (w : Waiter X) → Rotated name n old now gone → n < length old → now ≡ w ∷ rest → is_of name w ≡ false
    → Rotated name (n + 1) old (rest ++ w ∷ []) gone
rotated_stay name n old now rest gone w r = stay name n old now rest gone w r.passed r.waiting (r.whole) (r.stands) (r.taken) (r.turns)

-- no more are gathered than there are
pub rotated_few : {X : Type 0} → (name : List ℕ) (n : ℕ) (old now : List (Waiter X)) (gone : List (ℕ × Waiter X)) → Rotated name n old now gone → length gone ≤ count_by (is_of name) old
rotated_few {X = X} name n old now gone r =
    let all : length (gathered name 0 old) ≡ count_by (is_of name) old = length-gathered name 0 old ∙ length-filter (is_of name) old in
    let split : length (gathered name 0 old) ≡ length (gathered name 0 r.passed ++ gathered name (0 + length (others name r.passed)) r.waiting) =
    ap (λ l. length (gathered name 0 l)) (r.whole) ∙ ap length (gathered-append name 0 r.passed r.waiting) in
    let count : length gone ≡ length (gathered name 0 r.passed) = ap length (r.taken) in
    omega (arith, length-append (gathered name 0 r.passed) (gathered name (0 + length (others name r.passed)) r.waiting))

-- there is room for one that is to be taken out
pub rotated_room : {X : Type 0} → (name : List ℕ) (n : ℕ) (old now rest : List (Waiter X)) (gone : List (ℕ × Waiter X)) (w : Waiter X) → Rotated name n old now gone → n < length old → now ≡ w ∷ rest → is_of name w ≡ true
    → length gone < count_by (is_of name) old
rotated_room name n old now rest gone w r less front is =
    let more = rotated_few name (n + 1) old rest _ (rotated_out name n (n - length gone) old now rest gone w r less front is refl) in
    omega (arith, more, length-append gone ((n - length gone, w) ∷ []))

all_passed : {X : Type 0} → (old passed waiting : List (Waiter X)) → old ≡ passed ++ waiting → length passed ≡ length old → (waiting ≡ []) × (passed ≡ old)
all_passed old passed [] whole long = (refl, sym (append-nil passed) ∙ sym whole)
all_passed old passed (x ∷ after) whole long =
    let more : length old ≡ length (passed ++ x ∷ after) = ap length whole in
    absurd (omega (arith, length-append passed (x ∷ after)))

-- after a whole turn the others stand in their old order, and the gathered go back to their places
pub rotated_end : {X : Type 0} → (name : List ℕ) (n : ℕ) (old now : List (Waiter X)) (gone : List (ℕ × Waiter X)) → Rotated name n old now gone → n ≡ length old
    → (now ≡ others name old) × (restored gone now ≡ old) × PlacesFit gone now
rotated_end {X = X} name n old now gone r long =
    let done = all_passed old r.passed r.waiting (r.whole) (r.turns ∙ long) in
    let kept : now ≡ others name old = r.stands ∙ ap (λ l. l ++ others name r.passed) (done.0) ∙ ap (others name) (done.1) in
    let all : gone ≡ gathered name 0 old = r.taken ∙ ap (gathered name 0) (done.1) in (
      kept,
      ap (λ g. restored g now) all ∙ ap (restored (gathered name 0 old)) kept ∙ gathered_back name [] old,
      subst (λ g. PlacesFit g now) (sym all) (subst (PlacesFit (gathered name 0 old)) (sym kept) (gathered_fit name [] old)),
    )
