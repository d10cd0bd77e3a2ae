-- Each change of a channel gives a content that a channel can have.
use Rattle.std.proofs.Common.{◌≡◌, ℕ, suc, ◌+◌, ◌-◌, ◌<◌, ◌≤◌, ◌^◌, cond, true, false, List, [], ◌∷◌, ◌++◌, length, refl, ap, sym, ◌∙◌, subst, arith}
use Rattle.std.proofs.Common.{length-append, length-take-le}
use Rattle.std.proofs.Common.{Option, Some, None, Result, Ok, Err, IfOk, OnOk, OnErr, IsSome, option_map}
use Rattle.std.specs.Map.{lookup}
use Rattle.std.specs.BTreeMap.{BTreeMap, get, is_at, UpdatesBy}
use Rattle.gr_base.specs.Names.{ch_cmp}
use Rattle.gr_base.specs.declared.names.ChName.{ChName}
use Rattle.gr_base.specs.declared.values.Value.{Value}
use Rattle.gr_channels.specs.declared.changes.ChanUndo.{ChanUndo}
use Rattle.gr_channels.specs.declared.changes.ChanUndo.TheVariants.{Handed, Buffered, Took, Moved, Met, ParkedSender, ParkedReceiver, Withdrawn, Closed}
use Rattle.gr_channels.specs.declared.changes.Offered.{Offered}
use Rattle.gr_channels.specs.declared.changes.Offered.TheVariants as offered
use Rattle.gr_channels.specs.declared.changes.Taken.{Taken}
use Rattle.gr_channels.specs.declared.changes.Taken.TheVariants as taken
use Rattle.gr_channels.specs.Channels.{Content, Seen, IsChannel, CanEnter}
use Rattle.gr_channels.specs.Changes.{undone, front, Fits, OfferRule, TakeRule}
use Rattle.gr_tables.specs.AreChannels.{AreChannels}
use Rattle.gr_tables.specs.NamedChannels.{At}

-- with the same buffer
same_buffer : (a b : Content) → b.capacity ≡ a.capacity → b.head ≡ a.head → b.items ≡ a.items → IsChannel a → IsChannel b
same_buffer a b c h i valid = record {
  within = subst (λ xs. length xs ≤ b.capacity) (sym i) (subst (λ n. length a.items ≤ n) (sym c) valid.within);
  counted = subst (λ n. n < 2 ^ 64) (sym (ap (λ xs. b.head + length xs) i ∙ ap (λ n. n + length a.items) h)) valid.counted;
}

counted_more : (head n m k top : ℕ) → head + n + 1 < top → k + m ≡ head + n + 1 → k + m < top
counted_more head n m k top h e = omega arith

one_less : (head n m k top : ℕ) → head + n < top → k + m ≡ head + n → k + m < top
one_less head n m k top h e = omega arith

pub offered_valid : {E : Type 0} (a b : Content) (v : Value) (r : Result Offered E) → IsChannel a → CanEnter a → IfOk r (λ x. OfferRule a v x b)
    → OnErr r (b ≡ a) → IsChannel b
offered_valid a b v (Err e) valid room h k = subst IsChannel (sym k) valid
offered_valid a b v (Ok (offered.Closed w)) valid room h k = subst IsChannel (sym h.2) valid
offered_valid a b v (Ok (offered.Handed w u)) valid room h k = subst IsChannel (sym h.5)
    (same_buffer a (record a { receivers = b.receivers }) refl refl refl valid)
offered_valid a b v (Ok (offered.Buffered u)) valid room h k =
    let short = h.3 in
    let longer = length-append a.items (v ∷ []) in
    subst IsChannel (sym h.4) (record {
      within = omega (arith, short, longer);
      counted = counted_more a.head (length a.items) (length (a.items ++ v ∷ [])) a.head (2 ^ 64) room
          (ap (λ n. a.head + n) longer ∙ sym (add a.head (length a.items)));
    })
  where
    add : (x y : ℕ) → x + y + 1 ≡ x + (y + 1)
    add x y = omega arith
offered_valid a b v (Ok (offered.Full w)) valid room h k = subst IsChannel (sym h.4) valid

taken_valid_ok : (a b : Content) (x : Taken) → IsChannel a → CanEnter a → TakeRule a x b → IsChannel b
taken_valid_ok a b (taken.Item v u) valid room h =
    let count = ap length h.1 in
    let within = valid.within in
    subst IsChannel (sym h.3) (record {
      within = omega (arith, count, within);
      counted = one_less a.head (length a.items) (length b.items) (a.head + 1) (2 ^ 64) valid.counted
          (moved a.head (length b.items) ∙ ap (λ n. a.head + n) (sym count));
    })
  where
    moved : (x y : ℕ) → (x + 1) + y ≡ x + suc y
    moved x y = omega arith
taken_valid_ok a b (taken.Moved v u) valid room h =
    let w = h.0 in
    let rest = h.1 in
    let count = ap length h.3 in
    let longer = length-append rest (w.value ∷ []) in
    let within = valid.within in
    subst IsChannel (sym h.5) (record {
      within = omega (arith, count, longer, within);
      counted = counted_more a.head (length a.items) (length (rest ++ w.value ∷ [])) (a.head + 1) (2 ^ 64) room
          (ap (λ n. (a.head + 1) + n) longer ∙ moved a.head (length rest) ∙ ap (λ n. a.head + n + 1) (sym count));
    })
  where
    moved : (x y : ℕ) → (x + 1) + (y + 1) ≡ x + suc y + 1
    moved x y = omega arith
taken_valid_ok a b (taken.Met v u) valid room h = subst IsChannel (sym h.5) (same_buffer a (record a { senders = b.senders }) refl refl refl valid)
taken_valid_ok a b taken.Closed valid room h = subst IsChannel (sym h.3) valid
taken_valid_ok a b taken.Empty valid room h = subst IsChannel (sym h.3) valid

pub taken_valid : {E : Type 0} (a b : Seen) (r : Result Taken E) → IsChannel a.content → CanEnter a.content → IfOk r (λ x. TakeRule a.content x b.content)
    → OnErr r (b ≡ a) → IsChannel b.content
taken_valid a b (Ok x) valid room h k = taken_valid_ok a.content b.content x valid room h
taken_valid a b (Err e) valid room h k = subst (λ x. IsChannel x.content) (sym k) valid

-- a change that gives a content that a channel can have, or is refused
pub either_valid : {T E : Type 0} (a b c : Content) (r : Result T E) → IsChannel a → IsChannel c → OnOk r (b ≡ c) → OnErr r (b ≡ a) → IsChannel b
either_valid a b c (Ok x) old new h k = subst IsChannel (sym h) new
either_valid a b c (Err e) old new h k = subst IsChannel (sym k) old

-- a change that leaves the buffer as it is
pub gate_valid : {T E : Type 0} (a b c : Content) (r : Result T E) → IsChannel a → c.capacity ≡ a.capacity → c.head ≡ a.head → c.items ≡ a.items
    → OnOk r (b ≡ c) → OnErr r (b ≡ a) → IsChannel b
gate_valid a b c (Ok x) valid p q i h k = subst IsChannel (sym h) (same_buffer a c p q i valid)
gate_valid a b c (Err e) valid p q i h k = subst IsChannel (sym k) valid

shorter : {X : Type 0} → (xs : List X) → length (front xs) ≡ length xs - 1
shorter xs = let n : length xs - 1 ≤ length xs = omega arith in length-take-le (length xs - 1) xs n

back_one : (h n m c top : ℕ) → 0 < h → h + n < top → m ≡ n + 1 → (h - 1) + m < top
back_one h n m c top a b e = omega arith

pub undone_valid : (u : ChanUndo) (a : Content) → IsChannel a → Fits u a → IsChannel (undone u a)
undone_valid (Handed w) a valid h = same_buffer a _ refl refl refl valid
undone_valid Buffered a valid h =
    let less = shorter a.items in
    let within = valid.within in
    record { within = omega (arith, less, within); counted = fewer a.head (length a.items) (length (front a.items)) (2 ^ 64) valid.counted less }
  where
    fewer : (h n m top : ℕ) → h + n < top → m ≡ n - 1 → h + m < top
    fewer h n m top a e = omega arith
undone_valid (Took v) a valid h = record {
  within = omega (arith, h.1);
  counted = back_one a.head (length a.items) (suc (length a.items)) 0
      (2 ^ 64) h.0 valid.counted (omega arith);
}
undone_valid (Moved item go case) a valid h =
    let less = shorter a.items in
    let within = valid.within in
    record {
      within = omega (arith, less, within, h.1);
      counted = same_tail a.head (length a.items) (length (front a.items)) (2 ^ 64) h.0 h.1 valid.counted less;
    }
  where
    same_tail : (h n m top : ℕ) → 0 < h → 0 < n → h + n < top → m ≡ n - 1 → (h - 1) + suc m < top
    same_tail h n m top a b c e = omega arith
undone_valid (Met w) a valid h = same_buffer a _ refl refl refl valid
undone_valid ParkedSender a valid h = same_buffer a _ refl refl refl valid
undone_valid ParkedReceiver a valid h = same_buffer a _ refl refl refl valid
undone_valid (Withdrawn s r) a valid h = same_buffer a _ refl refl refl valid
undone_valid (Closed s r) a valid h = same_buffer a _ refl refl refl valid

pub fresh_valid : (n : ℕ) → IsChannel (record { capacity = n; closed = false; senders = []; receivers = []; head = 0; items = [] })
fresh_valid n = record { within = omega arith; counted = omega arith }

-- the channel at one name is another one, or gone
pub all_valid : (m n : BTreeMap ChName Seen) (k : ChName) (w : Option Seen) → AreChannels (get ch_cmp m)
    → ((q : ChName) → get ch_cmp n q ≡ cond (is_at (ch_cmp k) q) w (get ch_cmp m q)) → ((b : Seen) → w ≡ Some b → IsChannel b.content)
    → AreChannels (get ch_cmp n)
all_valid m n k w old writes here q c e =
    elim (is_at (ch_cmp k) q) as (λ t. cond t w (get ch_cmp m q) ≡ Some c → IsChannel c.content) [ true ↦ here c | false ↦ old q c ] (sym (writes q) ∙ e)

pub inserted_valid : {T E : Type 0} (m n : BTreeMap ChName Seen) (k : ChName) (b : Seen) (r : Result T E) → AreChannels (get ch_cmp m) → IsChannel b.content
    → OnOk r (UpdatesBy ch_cmp (ch_cmp k) m n (Some b)) → OnErr r (n.entries ≡ m.entries) → AreChannels (get ch_cmp n)
inserted_valid m n k b (Ok x) old new h e = all_valid m n k (Some b) old h.0 (λ c q. subst (λ (x : Seen). IsChannel x.content) (let p : b ≡ c = cc in p) new)
inserted_valid m n k b (Err e) old new h same = λ q c f. old q c (sym (ap (lookup (is_at (ch_cmp q))) same) ∙ f)

pub removed_valid : (m n : BTreeMap ChName Seen) (k : ChName) → AreChannels (get ch_cmp m) → UpdatesBy ch_cmp (ch_cmp k) m n None → AreChannels (get ch_cmp n)
removed_valid m n k old h = all_valid m n k None old h.0 (λ c q. absurd (let p : None ≡ Some c = q in cc))

-- what was lent is written through
pub lent_valid : (m n : BTreeMap ChName Seen) (k : ChName) (a b : Seen) → AreChannels (get ch_cmp m) → get ch_cmp m k ≡ Some a
    → (IsSome (get ch_cmp m k) → UpdatesBy ch_cmp (ch_cmp k) m n (Some b)) → (IsChannel a.content → IsChannel b.content) → AreChannels (get ch_cmp n)
lent_valid m n k a b old was writes keeps =
    let some : IsSome (get ch_cmp m k) = subst (λ (x : Option Seen). IsSome x) (sym was) refl in
    all_valid m n k (Some b) old (writes some).0 (λ c e. subst (λ (x : Seen). IsChannel x.content) (let q : b ≡ c = cc in q) (keeps (old k a was)))

-- what is true of the channel that is there
pub it_is : (P : Content → Type 0) (x : Option Content) (a : Content) → At P x → x ≡ Some a → P a
it_is P x a h e = subst (At P) e h

pub can_enter : (x : Option Content) (a : Content) → At CanEnter x → x ≡ Some a → CanEnter a
can_enter = it_is CanEnter

pub contents_valid : (m : BTreeMap ChName Seen) → AreChannels (get ch_cmp m) → (q : ChName) (x : Content)
    → option_map (λ (c : Seen). c.content) (get ch_cmp m q) ≡ Some x → IsChannel x
contents_valid m all q x e = one (get ch_cmp m q) refl e
  where
    one : (o : Option Seen) → get ch_cmp m q ≡ o → option_map (λ (c : Seen). c.content) o ≡ Some x → IsChannel x
    one None is h = absurd (let n : None ≡ Some x = h in cc)
    one (Some c) is h = subst IsChannel (let n : c.content ≡ x = cc in n) (all q c is)
