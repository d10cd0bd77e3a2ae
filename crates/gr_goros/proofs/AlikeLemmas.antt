-- Lists that are compared place by place.
use Rattle.std.proofs.Common.{◌≡◌, ℕ, zero, suc, ◌+◌, ◌<◌, ◌≤◌, false, List, [], ◌∷◌, ◌++◌, length, take, reverse, get_or, refl, sym, ap, ap₂, ◌∙◌, arith}
use Rattle.std.proofs.Math.Seq.{take-suc, take-length}
use Rattle.std.proofs.lemmas.List.{reverse-reverse}
use Rattle.std.specs.Prelude.{Vec}
use Rattle.gr_rules.specs.Goroutines as rules
use Rattle.gr_rules.specs.Goroutines.{ToSend, ToReceive}
use Rattle.gr_code.specs.CodeFrames.{CodeFrame}
use Rattle.gr_goros.specs.Views.{frames_by, frames_of, is_finished, status_of, lines_of, waits_of, wait_of}
use Rattle.gr_goros.specs.declared.wait.Status.{Status}
use Rattle.gr_goros.specs.declared.wait.Status.TheVariants.{Ready, Sending, Receiving, Waiting, Finished}
use Rattle.gr_goros.specs.declared.wait.Wait.{Wait}
use Rattle.gr_goros.specs.declared.wait.Wait.TheVariants as waits
use Rattle.gr_goros.proofs.TextLemmas.{next_line, lines_length}

next_item : {A : Type 0} → (xs : List A) (i : ℕ) (x : A) → i < length xs → x ≡ get_or xs i x → take (i + 1) xs ≡ take i xs ++ x ∷ []
next_item xs i x h e = let one : i + 1 ≡ suc i = omega arith in rw one (take-suc xs i x h ∙ ap (λ z. take i xs ++ z ∷ []) (sym e))

abbrev head_or : {A : Type 0} → A → List A → A
head_or d [] = d
head_or d (x ∷ xs) = x

abbrev tail : {A : Type 0} → List A → List A
tail [] = []
tail (x ∷ xs) = xs

same_last : {A : Type 0} → (zs : List A) (x y : A) → zs ++ x ∷ [] ≡ zs ++ y ∷ [] → x ≡ y
same_last [] x y e = ap (head_or x) e
same_last (z ∷ zs) x y e = same_last zs x y (ap tail e)

-- one place more is the same, and with that the places so far
pub one_more_alike : {A : Type 0} → (xs ys : List A) (i : ℕ) (x y : A) → length xs ≡ length ys → i < length xs
    → x ≡ get_or xs i x → y ≡ get_or ys i y → x ≡ y → take i xs ≡ take i ys → take (i + 1) xs ≡ take (i + 1) ys
one_more_alike xs ys i x y lengths h at there same before =
    next_item xs i x h at ∙ ap (λ z. take i xs ++ z ∷ []) same ∙ ap (λ zs. zs ++ y ∷ []) before
    ∙ sym (next_item ys i y (omega (arith, h, lengths)) there)

-- where they differ at one place
pub no_more_alike : {A : Type 0} → (xs ys : List A) (i : ℕ) (x y : A) → length xs ≡ length ys → i < length xs
    → x ≡ get_or xs i x → y ≡ get_or ys i y → take i xs ≡ take i ys → xs ≡ ys → x ≡ y
no_more_alike xs ys i x y lengths h at there before same =
    same_last (take i xs) x y (sym (next_item xs i x h at) ∙ ap (take (i + 1)) same ∙ next_item ys i y (omega (arith, h, lengths)) there
    ∙ ap (λ zs. zs ++ y ∷ []) (sym before))

pub all_places_alike : {A : Type 0} → (xs ys : List A) (i : ℕ) → length xs ≡ length ys → i ≡ length xs → take i xs ≡ take i ys → xs ≡ ys
all_places_alike xs ys i lengths all same =
    sym (take-length xs) ∙ ap (λ n. take n xs) (sym all) ∙ same ∙ ap (λ n. take n ys) (all ∙ lengths) ∙ take-length ys

-- one line more is the same, and with that the lines so far
pub one_more_line_alike : {A : Type 0} → (xs ys : List (Vec ℕ A)) (i : ℕ) (x y : Vec ℕ A) → length xs ≡ length ys → i < length xs
    → x ≡ get_or xs i x → y ≡ get_or ys i y → x.items ≡ y.items → lines_of (take i xs) ≡ lines_of (take i ys)
    → lines_of (take (i + 1) xs) ≡ lines_of (take (i + 1) ys)
one_more_line_alike xs ys i x y lengths h at there same before =
    next_line xs i x h at ∙ ap (λ z. lines_of (take i xs) ++ z ∷ []) same ∙ ap (λ zs. zs ++ y.items ∷ []) before
    ∙ sym (next_line ys i y (omega (arith, h, lengths)) there)

lines_take : {A : Type 0} → (n : ℕ) (ls : List (Vec ℕ A)) → lines_of (take n ls) ≡ take n (lines_of ls)
lines_take zero ls = refl
lines_take (suc n) [] = refl
lines_take (suc n) (l ∷ ls) = ap (λ r. l.items ∷ r) (lines_take n ls)

pub no_more_lines_alike : {A : Type 0} → (xs ys : List (Vec ℕ A)) (i : ℕ) (x y : Vec ℕ A) → length xs ≡ length ys → i < length xs
    → x ≡ get_or xs i x → y ≡ get_or ys i y → lines_of (take i xs) ≡ lines_of (take i ys) → lines_of xs ≡ lines_of ys → x.items ≡ y.items
no_more_lines_alike xs ys i x y lengths h at there before same =
    same_last (lines_of (take i xs)) x.items y.items (sym (next_line xs i x h at) ∙ lines_take (i + 1) xs ∙ ap (take (i + 1)) same
    ∙ sym (lines_take (i + 1) ys) ∙ next_line ys i y (omega (arith, h, lengths)) there ∙ ap (λ zs. zs ++ y.items ∷ []) (sym before))

pub all_lines_alike : {A : Type 0} → (xs ys : List (Vec ℕ A)) (i : ℕ) → length xs ≡ length ys → i ≡ length xs
    → lines_of (take i xs) ≡ lines_of (take i ys) → lines_of xs ≡ lines_of ys
all_lines_alike xs ys i lengths all same =
    ap lines_of (sym (take-length xs) ∙ ap (λ n. take n xs) (sym all)) ∙ same ∙ ap lines_of (ap (λ n. take n ys) (all ∙ lengths) ∙ take-length ys)

pub as_many_lines : {A : Type 0} → (xs ys : List (Vec ℕ A)) → lines_of xs ≡ lines_of ys → length xs ≡ length ys
as_many_lines xs ys same = sym (lines_length xs) ∙ ap length same ∙ lines_length ys

-- what is waited for tells the waits
abbrev wait_in : rules.Wait → Wait
wait_in (ToSend c clause) = waits.Send c clause
wait_in (ToReceive c clause) = waits.Receive c clause

told : (w : Wait) → wait_in (wait_of w) ≡ w
told (waits.Send c clause) = refl
told (waits.Receive c clause) = refl

abbrev waits_in : List rules.Wait → List Wait
waits_in [] = []
waits_in (w ∷ ws) = wait_in w ∷ waits_in ws

all_told : (ws : List Wait) → waits_in (waits_of ws) ≡ ws
all_told [] = refl
all_told (w ∷ ws) = ap (λ v. v ∷ waits_in (waits_of ws)) (told w) ∙ ap (λ vs. w ∷ vs) (all_told ws)

abbrev waits_waited : rules.Status → List rules.Wait
waits_waited (rules.waiting ws) = ws
waits_waited rules.ready = []
waits_waited rules.finished = []

-- two waits or more are not just one
pub not_only : (w : rules.Wait) (ws : List Wait) → 2 ≤ length ws → rules.waiting (w ∷ []) ≡ rules.waiting (waits_of ws) → ⊥
not_only w [] more same = omega (arith, more)
not_only w (x ∷ []) more same = omega (arith, more)
not_only w (x ∷ y ∷ ws) more same = let lengths : 1 ≡ suc (suc (length (waits_of ws))) = ap (λ s. length (waits_waited s)) same in omega (arith, lengths)

pub same_waits : (vs ws : List Wait) → rules.waiting (waits_of vs) ≡ rules.waiting (waits_of ws) → vs ≡ ws
same_waits vs ws same = sym (all_told vs) ∙ ap (λ s. waits_in (waits_waited s)) same ∙ all_told ws

-- the frames of a goroutine that is not finished tell its innermost frame and the others
pub live_unless_finished : (s : Status) → ¬ (s ≡ Finished) → is_finished (status_of s) ≡ false
live_unless_finished Ready not = refl
live_unless_finished (Sending c) not = refl
live_unless_finished (Receiving c) not = refl
live_unless_finished (Waiting ws) not = refl
live_unless_finished Finished not = absurd (not refl)

same_reversed : (xs ys : List CodeFrame) → reverse xs ≡ reverse ys → xs ≡ ys
same_reversed xs ys same = sym (reverse-reverse xs) ∙ ap reverse same ∙ reverse-reverse ys

pub frames_alike : (s t : rules.Status) (x y : CodeFrame) (xs ys : List CodeFrame) → is_finished s ≡ false → is_finished t ≡ false
    → x ≡ y → xs ≡ ys → frames_of s x xs ≡ frames_of t y ys
frames_alike s t x y xs ys live alive first others = rw (live, alive) (ap₂ (λ (f : CodeFrame) (fs : List CodeFrame). f ∷ reverse fs) first others)

pub alike_frames : (s t : rules.Status) (x y : CodeFrame) (xs ys : List CodeFrame) → is_finished s ≡ false → is_finished t ≡ false
    → frames_of s x xs ≡ frames_of t y ys → (x ≡ y) × (xs ≡ ys)
alike_frames s t x y xs ys live alive frames =
    let seen : x ∷ reverse xs ≡ y ∷ reverse ys =
    sym (ap (λ b. frames_by b x xs) live) ∙ frames ∙ ap (λ b. frames_by b y ys) alive in
    (ap (head_or x) seen, same_reversed xs ys (ap tail seen))
