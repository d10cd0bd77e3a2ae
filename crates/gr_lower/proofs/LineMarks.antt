-- What the functions that write the lines of instructions need of lists.
use Rattle.std.proofs.Common.{◌≡◌, ℕ, List, ◌++◌, replicate, ap, ◌∙◌, append_assoc}

pub two_more : (x y pre a b : List ℕ) → a ≡ pre ++ x → b ≡ a ++ y → b ≡ pre ++ (x ++ y)
two_more x y pre a b ea eb = eb ∙ ap (λ l. l ++ y) ea ∙ append_assoc pre x y

pub three_more : (x y z pre a b c : List ℕ) → a ≡ pre ++ x → b ≡ a ++ y → c ≡ b ++ z → c ≡ pre ++ (x ++ y ++ z)
three_more x y z pre a b c ea eb ec = two_more (x ++ y) z pre b c (two_more x y pre a b ea eb) ec

pub four_more : (x y z w pre a b c d : List ℕ) → a ≡ pre ++ x → b ≡ a ++ y → c ≡ b ++ z → d ≡ c ++ w → d ≡ pre ++ (x ++ y ++ z ++ w)
four_more x y z w pre a b c d ea eb ec ed = two_more (x ++ y ++ z) w pre c d (three_more x y z pre a b c ea eb ec) ed

pub marked : (n m line : ℕ) (a b : List ℕ) → b ≡ a ++ replicate n line → n ≡ m → b ≡ a ++ replicate m line
marked n m line a b e en = e ∙ ap (λ k. a ++ replicate k line) en
