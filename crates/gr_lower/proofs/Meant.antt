-- Points that numbers mean, one after another, and instructions that fit them and keep to what there is.
use Rattle.std.proofs.Common.{◌≡◌, ◌≤◌, ◌<◌, ℕ, zero, suc, ◌+◌, List, [], ◌∷◌, ◌++◌, length, refl, arith, length-append}
use Rattle.gr_rules.specs.Points.{Point}
use Rattle.gr_code.specs.Code.{Meanings, Fits}
use Rattle.gr_code.specs.Instructions.{Instruction}
use Rattle.gr_code.specs.Programs.{InBounds}
use Rattle.gr_lower.specs.Lowered.{cells_for}

module _ (count : ℕ) (means : Meanings) where
  -- the instruction with this number is there, and means this point
  pub record Leads (on : ℕ) (p : Point) : Type 0 where
    pub is : means on ≡ p
    pub within : on < count

  abbrev pub AreMeant : ℕ → List Point → Type 0
  AreMeant o [] = Unit {0}
  AreMeant o (p ∷ ps) = Leads o p × AreMeant (o + 1) ps

  pub meant_first : (o : ℕ) (ps qs : List Point) → AreMeant o (ps ++ qs) → AreMeant o ps
  meant_first o [] qs h = tt
  meant_first o (p ∷ ps) qs h = (h.0, meant_first (o + 1) ps qs h.1)

  pub meant_second : (o k : ℕ) (ps qs : List Point) → length ps ≡ k → AreMeant o (ps ++ qs) → AreMeant (o + k) qs
  meant_second o k [] qs e h = let z : o + k ≡ o = omega arith in rw z h
  meant_second o k (p ∷ ps) qs e h = let z : o + k ≡ o + 1 + length ps = omega arith in rw z (meant_second (o + 1) (length ps) ps qs refl h.1)

  pub meant_within : (o j : ℕ) (ps : List Point) → AreMeant o ps → j < length ps → o + j < count
  meant_within o j [] h l = absurd (omega arith)
  meant_within o zero (p ∷ ps) h l = let w : o < count = h.0.within in omega arith
  meant_within o (suc j) (p ∷ ps) h l = let w : o + 1 + j < count = meant_within (o + 1) j ps h.1 (omega arith) in omega arith

abbrev pub EachWithin : ℕ → List Instruction → Type 0
EachWithin m [] = Unit {0}
EachWithin m (i ∷ is) = (cells_for i ≤ m) × EachWithin m is

pub within_first : (m : ℕ) (is js : List Instruction) → EachWithin m (is ++ js) → EachWithin m is
within_first m [] js h = tt
within_first m (i ∷ is) js h = (h.0, within_first m is js h.1)

pub within_second : (m : ℕ) (is js : List Instruction) → EachWithin m (is ++ js) → EachWithin m js
within_second m [] js h = h
within_second m (i ∷ is) js h = within_second m is js h.1

module _ (n m count : ℕ) (means : Meanings) where
  abbrev pub FitsHere : Point → Instruction → Type 0
  FitsHere p i = Fits n means p i × InBounds n m count i

  abbrev pub EachFits : List Point → List Instruction → Type 0
  EachFits [] [] = Unit {0}
  EachFits (p ∷ ps) (i ∷ is) = FitsHere p i × EachFits ps is
  EachFits ps is = ⊥

  pub fits_both : (ps qs : List Point) (is js : List Instruction) → EachFits ps is → EachFits qs js → EachFits (ps ++ qs) (is ++ js)
  fits_both [] qs [] js f g = g
  fits_both (p ∷ ps) qs (i ∷ is) js f g = (f.0, fits_both ps qs is js f.1 g)
  fits_both [] qs (i ∷ is) js f g = absurd f
  fits_both (p ∷ ps) qs [] js f g = absurd f

-- four stretches, one after another
module _ (count : ℕ) (means : Meanings) (o i j k : ℕ) (a b c e : List Point) (f : length a ≡ i) (g : length b ≡ j) (h : length c ≡ k)
    (s : AreMeant count means o (a ++ b ++ c ++ e)) where
  pub first_of_four : AreMeant count means o a
  first_of_four = meant_first count means o a b (meant_first count means o (a ++ b) c (meant_first count means o (a ++ b ++ c) e s))

  pub second_of_four : AreMeant count means (o + i) b
  second_of_four = meant_second count means o i a b f (meant_first count means o (a ++ b) c (meant_first count means o (a ++ b ++ c) e s))

  pub third_of_four : AreMeant count means (o + i + j) c
  third_of_four =
      let l : length (a ++ b) ≡ length a + length b = length-append a b in
      let z : o + i + j ≡ o + length (a ++ b) = omega arith in
      rw z (meant_second count means o (length (a ++ b)) (a ++ b) c refl (meant_first count means o (a ++ b ++ c) e s))

  pub fourth_of_four : AreMeant count means (o + i + j + k) e
  fourth_of_four =
      let l : length (a ++ b) ≡ length a + length b = length-append a b in
      let r : length (a ++ b ++ c) ≡ length (a ++ b) + length c = length-append (a ++ b) c in
      let z : o + i + j + k ≡ o + length (a ++ b ++ c) = omega arith in
      rw z (meant_second count means o (length (a ++ b ++ c)) (a ++ b ++ c) e refl s)

pub within_four : (m : ℕ) (a b c e : List Instruction) → EachWithin m (a ++ b ++ c ++ e) → EachWithin m a × EachWithin m b × EachWithin m c × EachWithin m e
within_four m a b c e w =
    let x : EachWithin m (a ++ b ++ c) = within_first m (a ++ b ++ c) e w in
    let y : EachWithin m (a ++ b) = within_first m (a ++ b) c x in
    (within_first m a b y, within_second m a b y, within_second m (a ++ b) c x, within_second m (a ++ b ++ c) e w)

pub fits_four : (n m count : ℕ) (means : Meanings) (p q r s : List Point) (a b c e : List Instruction) → EachFits n m count means p a
    → EachFits n m count means q b
    → EachFits n m count means r c → EachFits n m count means s e → EachFits n m count means (p ++ q ++ r ++ s) (a ++ b ++ c ++ e)
fits_four n m count means p q r s a b c e f g h k =
    fits_both n m count means (p ++ q ++ r) s (a ++ b ++ c) e
    (fits_both n m count means (p ++ q) r (a ++ b) c (fits_both n m count means p q a b f g) h) k
