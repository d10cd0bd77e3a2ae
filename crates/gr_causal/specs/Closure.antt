-- The reflexive transitive closure of a relation, the usual inductive one.

-- R leads from x to the element, in no step, in one or in more
pub data Reaches {A : Type 0} (R : A → A → Type 0) (x : A) : A → Type 0 where
  itself : Reaches R x x
  further : {a b : A} → Reaches R x a → R a b → Reaches R x b
