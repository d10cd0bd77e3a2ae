-- Texts that get longer at their end.
use Rattle.std.proofs.Common.{◌≡◌, ℕ, suc, ◌+◌, ◌<◌, ◌≤◌, List, [], ◌++◌, Vec, vec_capacity, length, take, drop, get_or, OnOk, OnErr, Ok, Err, Global}
use Rattle.std.proofs.Common.{refl, sym, ap, ◌∙◌, append-nil, append_assoc, length-append, drop-cons, add-one, arith}
use Rattle.std.specs.List.{flat_map}
use Rattle.std.specs.Result.{IsErr}
use Rattle.std.specs.declared.result.Result.{Result}
use Rattle.std.proofs.lemmas.List.{take_all, take-append-le, drop_all}
use Rattle.std.proofs.lemmas.Result.{on_ok_weaker, on_err_weaker, IfOk-from_err}
use Rattle.gr_base.specs.declared.memory.NoMemory.{NoMemory}
use Rattle.gr_command.specs.Room.{Grows, IsFull, Puts}
use Rattle.gr_command.proofs.Errors.{on_err}

grows_same : (a b : Vec ℕ Global) → b.items ≡ a.items → vec_capacity a ≤ vec_capacity b → Grows a b
grows_same a b e c = record { more = []; items = e ∙ sym (append-nil a.items); capacity = c }

grows_append : (a b : Vec ℕ Global) (xs : List ℕ) → b.items ≡ a.items ++ xs → vec_capacity a ≤ vec_capacity b → Grows a b
grows_append a b xs e c = record { more = xs; items = e; capacity = c }

grows_then : (a b c : Vec ℕ Global) → Grows a b → Grows b c → Grows a c
grows_then a b c h k = record {
  more = h.more ++ k.more;
  items = k.items ∙ ap (λ t. t ++ k.more) h.items ∙ append_assoc a.items h.more k.more;
  capacity = omega (arith, h.capacity, k.capacity);
}

pub cut_back : (a b : Vec ℕ Global) → Grows a b → take (length a.items) b.items ≡ a.items
cut_back a b h = rw h.items (take-append-le (length a.items) a.items h.more (omega arith) ∙ take_all (length a.items) a.items (omega arith))

pub puts_all : {T E : Type 0} {v : T} {a b : Vec ℕ Global} {xs : List ℕ} → b.items ≡ a.items ++ xs → vec_capacity a ≤ vec_capacity b
    → Puts {T = T} {E = E} (Ok v) a b xs
puts_all {a} {b} {xs} items capacity = record { ok = items; full = tt; grows = grows_append a b xs items capacity }

pub puts_nothing : {T E : Type 0} {v : T} (a : Vec ℕ Global) → Puts {T = T} {E = E} (Ok v) a a []
puts_nothing a = puts_all (sym (append-nil a.items)) (omega arith)

pub puts_none : {T E : Type 0} {r : Result T E} (a b : Vec ℕ Global) {xs : List ℕ} → IsErr r → b.items ≡ a.items → IsFull a xs
    → vec_capacity a ≤ vec_capacity b → Puts r a b xs
puts_none {r} a b is items full capacity = record { ok = IfOk-from_err r _ is; full = on_err r full; grows = grows_same a b items capacity }

-- a call that appends a piece, or leaves the text as it was
pub puts_whole : {T E : Type 0} (r : Result T E) {a b : Vec ℕ Global} {xs : List ℕ} → OnOk r (b.items ≡ a.items ++ xs)
    → OnErr r (b.items ≡ a.items) → OnErr r (IsFull a xs) → vec_capacity a ≤ vec_capacity b → Puts r a b xs
puts_whole (Ok v) ok err full capacity = puts_all ok capacity
puts_whole (Err e) ok err full capacity = puts_none _ _ refl err full capacity

-- a piece, and then another
pub puts_then : {T E : Type 0} {v : T} {r : Result T E} {a b c : Vec ℕ Global} {xs ys : List ℕ} → Puts {T = T} {E = E} (Ok v) a b xs
    → Puts r b c ys → Puts r a c (xs ++ ys)
puts_then {r} {a} {b} {c} {xs} {ys} first rest =
    let longer : length b.items ≡ length a.items + length xs = ap length first.ok ∙ length-append a.items xs in
    record {
      ok = on_ok_weaker r (λ is. is ∙ ap (λ t. t ++ ys) first.ok ∙ append_assoc a.items xs ys) rest.ok;
      full = on_err_weaker r (λ full. omega (arith, full, first.grows.capacity, longer, length-append xs ys)) rest.full;
      grows = grows_then a b c first.grows rest.grows;
    }

-- where there is no room for a piece, there is none for it and more
pub puts_within : {T E : Type 0} {e : E} {r : Result T E} {a b : Vec ℕ Global} {xs : List ℕ} (ys : List ℕ) → IsErr r
    → Puts {T = T} {E = E} (Err e) a b xs → Puts r a b (xs ++ ys)
puts_within {r} {xs} ys is part = record {
  ok = IfOk-from_err r _ is;
  full = on_err r (omega (arith, part.full, length-append xs ys));
  grows = part.grows;
}

-- a piece behind a text for which room was made
pub puts_roomier : {E : Type 0} {r : Result (Unit {0}) E} (a b : Vec ℕ Global) {c : Vec ℕ Global} {xs : List ℕ} → b.items ≡ a.items
    → vec_capacity a ≤ vec_capacity b → Puts r b c xs → Puts r a c xs
puts_roomier a b items capacity piece =
    puts_then {xs = []} (puts_all {v = tt {0}} {a = a} {b = b} (items ∙ sym (append-nil a.items)) capacity) piece

-- a call that puts the rest behind the new text puts the whole behind the old one
abbrev pub LeadsTo : Vec ℕ Global → Vec ℕ Global → List ℕ → List ℕ → Type 0
LeadsTo old new rest whole = (r : Result (Unit {0}) NoMemory) (c : Vec ℕ Global) → Puts r new c rest → Puts r old c whole

left_from : {X : Type 0} (f : X → List ℕ) (xs : List X) (i : ℕ) (x : X) → i < length xs → x ≡ get_or xs i x
    → flat_map f (drop i xs) ≡ f x ++ flat_map f (drop (i + 1) xs)
left_from f xs i x within is = rw add-one (ap (flat_map f) (drop-cons xs i x within) ∙ ap (λ y. f y ++ flat_map f (drop (suc i) xs)) (sym is))

-- a loop over pieces, after one more of them
pub leads_on : {X : Type 0} {v : Unit {0}} (f : X → List ℕ) (xs : List X) (i : ℕ) (x : X) {a b c : Vec ℕ Global} → i < length xs
    → x ≡ get_or xs i x → LeadsTo a b (flat_map f (drop i xs)) (flat_map f xs) → Puts {E = NoMemory} (Ok v) b c (f x)
    → LeadsTo a c (flat_map f (drop (i + 1) xs)) (flat_map f xs)
leads_on f xs i x within is leads piece r d rest = leads r d (rw (left_from f xs i x within is) (puts_then piece rest))

-- a loop over pieces, after the last
pub leads_up : {X : Type 0} {v : Unit {0}} (f : X → List ℕ) (xs : List X) (i : ℕ) {a b : Vec ℕ Global} → length xs ≤ i
    → LeadsTo a b (flat_map f (drop i xs)) (flat_map f xs) → Puts {E = NoMemory} (Ok v) a b (flat_map f xs)
leads_up {v} f xs i {a} {b} past leads = leads (Ok v) b (rw (drop_all i xs past) (puts_nothing b))

-- a loop over pieces, at one for which there is no room
pub leads_short : {X : Type 0} {e : NoMemory} {r : Result (Unit {0}) NoMemory} (f : X → List ℕ) (xs : List X) (i : ℕ) (x : X)
    {a b c : Vec ℕ Global} → i < length xs → x ≡ get_or xs i x → LeadsTo a b (flat_map f (drop i xs)) (flat_map f xs) → IsErr r
    → Puts {T = Unit {0}} (Err e) b c (f x) → Puts r a c (flat_map f xs)
leads_short {r} f xs i x {c} within is leads refused piece =
    leads r c (rw (left_from f xs i x within is) (puts_within _ refused piece))
