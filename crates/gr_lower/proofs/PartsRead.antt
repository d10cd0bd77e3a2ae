-- The code of operands is read off them part by part, each being plugged before the next.
use Rattle.std.proofs.Common.{◌≡◌, ◌≤◌, ℕ, suc, ◌+◌, List, [], ◌∷◌, ◌++◌, length, Option, Some, None, refl, arith, length-append}
use Rattle.gr_base.specs.declared.values.Value.{Value}
use Rattle.gr_rules.specs.Operands.{Operand, Operands}
use Rattle.gr_rules.specs.Parts.{Ask, Decides, Next, Plain, Asks, next, next_of}
use Rattle.gr_code.specs.Plugging.{plug, plug_all}
use Rattle.gr_code.specs.Passing.{passed_by, passed_by_in}
use Rattle.gr_code.specs.Instructions.{Instruction, Part, Decide}

-- the instruction of a part; this many parts are passed by where it is a decision that settles
abbrev pub instruction_for : Ask → ℕ → ℕ → ℕ → Instruction
instruction_for (Decides op a) d o m = Decide op a d (o + 1 + m) (o + 1)
instruction_for other d o m = Part other (Some d) (o + 1)

pub data Reads {A : Type 0} (next : A → Next A) (plug : ℕ → A → Option A) (passed : A → Option ℕ) : ℕ → ℕ → A → List Instruction → A → Type 0 where
  done : (d o : ℕ) (a : A) → Reads next plug passed d o a [] a
  reads : (d o : ℕ) (a b : A) (ask : Ask) (k : Value → A) (m : ℕ) (is : List Instruction) (l : A)
      → next a ≡ Asks ask k → plug d a ≡ Some b → passed a ≡ Some m → m ≤ length is
      → Reads next plug passed (d + 1) (o + 1) b is l
      → Reads next plug passed d o a (instruction_for ask d o m ∷ is) l

-- no part is left
pub record IsPlain {A : Type 0} (next : A → Next A) (plug : ℕ → A → Option A) (passed : A → Option ℕ) (a : A) : Type 0 where
  pub asks : next a ≡ Plain
  pub plugs : (d : ℕ) → plug d a ≡ None
  pub passes : passed a ≡ None

-- what holds of a part holds of the whole
pub record IsContext {A B : Type 0} (next : A → Next A) (plug : ℕ → A → Option A) (passed : A → Option ℕ)
    (next' : B → Next B) (plug' : ℕ → B → Option B) (passed' : B → Option ℕ) (f : A → B) : Type 0 where
  pub asks : (a : A) (ask : Ask) (k : Value → A) → next a ≡ Asks ask k → next' (f a) ≡ Asks ask (λ v. f (k v))
  pub plugs : (d : ℕ) (a b : A) → plug d a ≡ Some b → plug' d (f a) ≡ Some (f b)
  pub passes : (a : A) (m : ℕ) → passed a ≡ Some m → passed' (f a) ≡ Some m

module _ {A : Type 0} (next : A → Next A) (plug : ℕ → A → Option A) (passed : A → Option ℕ) where
  pub join : (d o : ℕ) (a b c : A) (is js : List Instruction) (n : ℕ) → Reads next plug passed d o a is b → length is ≡ n
      → Reads next plug passed (d + n) (o + n) b js c → Reads next plug passed d o a (is ++ js) c
  join _ _ _ _ c _ js n (done d o a) e r =
      let z : d + n ≡ d = omega arith in
      let w : o + n ≡ o = omega arith in
      rw (z, w) at r
  join _ _ _ _ c _ js n (reads d o a a' ask k m is b asks plugs passes enough r) e s =
      reads d o a a' ask k m (is ++ js) c asks plugs passes (let l : length (is ++ js) ≡ length is + length js = length-append is js in omega arith)
      (join (d + 1) (o + 1) a' b c is js (length is) r refl
      (let z : d + n ≡ d + 1 + length is = omega arith in let w : o + n ≡ o + 1 + length is = omega arith in rw (z, w) at s))

  module _ {B : Type 0} (next' : B → Next B) (plug' : ℕ → B → Option B) (passed' : B → Option ℕ) (f : A → B)
      (c : IsContext next plug passed next' plug' passed' f) where
    pub lift : (d o : ℕ) (a b : A) (is : List Instruction) → Reads next plug passed d o a is b → Reads next' plug' passed' d o (f a) is (f b)
    lift _ _ _ _ _ (done d o a) = done d o (f a)
    lift _ _ _ _ _ (reads d o a a' ask k m is b asks plugs passes enough r) =
        reads d o (f a) (f a') ask (λ v. f (k v)) m is (f b) (c.asks a ask k asks) (c.plugs d a a' plugs) (c.passes a m passes) enough
        (lift (d + 1) (o + 1) a' b is r)

  -- where there are no instructions, nothing is done
  pub same_end : (d o : ℕ) (a b : A) (is : List Instruction) → Reads next plug passed d o a is b → length is ≡ 0 → a ≡ b
  same_end _ _ _ _ _ (done d o a) e = refl
  same_end _ _ _ _ _ (reads d o a a' ask k m is b asks plugs passes enough r) e = absurd (omega arith)

  -- where there are some, there is a next part
  pub record HasPart (d : ℕ) (a : A) : Type 0 where
    pub ask : Ask
    pub k : Value → A
    pub on : A
    pub m : ℕ
    pub asks : next a ≡ Asks ask k
    pub plugs : plug d a ≡ Some on
    pub passes : passed a ≡ Some m

  pub has_part : (d o n : ℕ) (a b : A) (is : List Instruction) → Reads next plug passed d o a is b → length is ≡ suc n → HasPart d a
  has_part _ _ n _ _ _ (done d o a) e = absurd (omega arith)
  has_part _ _ n _ _ _ (reads d o a a' ask k m is b asks plugs passes enough r) e =
      record { ask = ask; k = k; on = a'; m = m; asks = asks; plugs = plugs; passes = passes }

  pub single : (d o : ℕ) (a b : A) (ask : Ask) (k : Value → A) → next a ≡ Asks ask k → plug d a ≡ Some b → passed a ≡ Some 0
      → Reads next plug passed d o a (instruction_for ask d o 0 ∷ []) b
  single d o a b ask k asks plugs passes = reads d o a b ask k 0 [] b asks plugs passes (omega arith) (done (d + 1) (o + 1) b)

-- operands, and lists of them
abbrev pub ReadsOne : ℕ → ℕ → Operand → List Instruction → Operand → Type 0
ReadsOne = Reads next plug passed_by

abbrev pub ReadsAll : ℕ → ℕ → Operands → List Instruction → Operands → Type 0
ReadsAll = Reads next_of plug_all passed_by_in

abbrev pub PlainOne : Operand → Type 0
PlainOne = IsPlain next plug passed_by

abbrev pub PlainAll : Operands → Type 0
PlainAll = IsPlain next_of plug_all passed_by_in

abbrev pub OneInOne : (Operand → Operand) → Type 0
OneInOne = IsContext next plug passed_by next plug passed_by

abbrev pub OneInAll : (Operand → Operands) → Type 0
OneInAll = IsContext next plug passed_by next_of plug_all passed_by_in

abbrev pub AllInOne : (Operands → Operand) → Type 0
AllInOne = IsContext next_of plug_all passed_by_in next plug passed_by

abbrev pub AllInAll : (Operands → Operands) → Type 0
AllInAll = IsContext next_of plug_all passed_by_in next_of plug_all passed_by_in
