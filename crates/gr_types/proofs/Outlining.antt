-- The loops over the functions of a file.
use Rattle.std.proofs.Common.{◌≡◌, ℕ, List, [], ◌∷◌, ◌++◌, length, get_or, drop, ◌<◌, ◌≤◌, ◌+◌, refl, ap, sym, ◌∙◌, add-one, drop-cons, append-nil}
use Rattle.std.specs.Prelude.{Option, Some, None}
use Rattle.std.proofs.lemmas.List.{drop_all, nil_from_length}
use Rattle.gr_tree.specs.Files as files
use Rattle.gr_tree.specs.declared.file.Func.{Func}
use Rattle.gr_exprs.specs.declared.refusal.RuleError.{RuleError}
use Rattle.gr_exprs.specs.declared.refusal.RuleError.TheVariants as faults
use Rattle.gr_types.specs.declared.refusal.CheckError.{CheckError}
use Rattle.gr_types.specs.declared.refusal.CheckError.TheVariants as errors
use Rattle.gr_types.specs.declared.outlines.Outline as code_outline
use Rattle.gr_program.specs.declared.program.Function as code_function
use Rattle.gr_scan.specs.declared.token.Place.{Place}
use Rattle.gr_typing.specs.Scopes.{Signature}
use Rattle.gr_program.specs.Programs.{Function}
use Rattle.gr_program.specs.Views.{function_of, functions_of}
use Rattle.gr_exprs.specs.Finding.{◌>>=◌}
use Rattle.gr_exprs.specs.Checking.{Rejects}
use Rattle.gr_types.specs.Checking.{Denies, refused_at}
use Rattle.gr_types.specs.Outlines.{Outline, Headed, heading_in, headings_in, finished, finished_all}
use Rattle.gr_types.specs.OutlineViews.{outline_of, outlines_of}
use Rattle.gr_exprs.proofs.Finds.{then_some}

pub outlines_push : (os : List code_outline.Outline) (o : code_outline.Outline) → outlines_of (os ++ (o ∷ [])) ≡ outlines_of os ++ (outline_of o ∷ [])
outlines_push [] o = refl
outlines_push (p ∷ os) o = ap (λ l. outline_of p ∷ l) (outlines_push os o)

front_functions : (fs : List Func) (i : ℕ) (f : Func) → i < length fs → f ≡ get_or fs i f → files.functions_of (drop i fs) ≡ files.function_of f ∷ files.functions_of (drop (i + 1) fs)
front_functions fs i f lt e =
    let g : drop i fs ≡ get_or fs i f ∷ drop (i + 1) fs = rw (add-one, drop-cons fs i f) in
    ap files.functions_of g ∙ ap (λ f. files.function_of f ∷ files.functions_of (drop (i + 1) fs)) (sym e)

-- headings
module _ (fs : List Func) (i : ℕ) (known : List Signature) (os : List Outline) (r : Option (List Signature × List Outline)) (so_far : headings_in known os (files.functions_of (drop i fs)) ≡ r) where
  after : Headed → Option (List Signature × List Outline)
  after h = headings_in (known ++ (h.0 ∷ [])) (os ++ (h.1 ∷ [])) (files.functions_of (drop (i + 1) fs))

  rest : (f : Func) → i < length fs → f ≡ get_or fs i f → (heading_in known (files.function_of f) >>= after) ≡ r
  unfolding headings_in after
  rest f lt is = sym (ap (headings_in known os) (front_functions fs i f lt is)) ∙ so_far

  pub heading_on : (f : Func) (h : Headed) (more : List Signature) (all : List Outline) → i < length fs → f ≡ get_or fs i f → heading_in known (files.function_of f) ≡ Some h → more ≡ known ++ (h.0 ∷ []) → all ≡ os ++ (h.1 ∷ []) → headings_in more all (files.functions_of (drop (i + 1) fs)) ≡ r
  unfolding after
  heading_on f h more all lt is e p q =
      ap (λ k. headings_in k all (files.functions_of (drop (i + 1) fs))) p ∙ ap (λ a. headings_in (known ++ (h.0 ∷ [])) a (files.functions_of (drop (i + 1) fs))) q
      ∙ sym (then_some (heading_in known (files.function_of f)) h after e) ∙ rest f lt is

  pub heading_over : (f : Func) (fault : RuleError) (place : Place) → i < length fs → f ≡ get_or fs i f → Rejects fault (heading_in known (files.function_of f)) → Denies (refused_at place fault) r
  heading_over f (faults.Broken code) place lt is e = sym (rest f lt is) ∙ ap (λ h. h >>= after) e
  heading_over f faults.Memory place lt is e = tt

  pub headings_end : length fs ≤ i → r ≡ Some (known, os)
  unfolding headings_in
  headings_end le = sym so_far ∙ ap (λ l. headings_in known os (files.functions_of l)) (drop_all i fs le)

-- bodies
functions_push : (cs : List code_function.Function) (c : code_function.Function) (rest : List Function) → functions_of (cs ++ (c ∷ [])) ++ rest ≡ functions_of cs ++ (function_of c ∷ rest)
functions_push [] c rest = refl
functions_push (d ∷ cs) c rest = ap (λ l. function_of d ∷ l) (functions_push cs c rest)

after_functions : (o : Option (List Function)) (cs : List code_function.Function) (c : code_function.Function) → (o >>= λ rest. Some (functions_of (cs ++ (c ∷ [])) ++ rest)) ≡ ((o >>= λ rest. Some (function_of c ∷ rest)) >>= λ rest. Some (functions_of cs ++ rest))
after_functions (Some rest) cs c = ap Some (functions_push cs c rest)
after_functions None cs c = refl

module _ (fs : List Signature) (os : List code_outline.Outline) (cs : List code_function.Function) (r : Option (List Function)) (so_far : (finished_all fs (outlines_of os) >>= λ rest. Some (functions_of cs ++ rest)) ≡ r) where
  left : List code_outline.Outline → Option (List Function)
  left others = finished_all fs (outlines_of others)

  next : (o : code_outline.Outline) (others : List code_outline.Outline) → os ≡ o ∷ others → ((finished fs (outline_of o) >>= λ c. left others >>= λ rest. Some (c ∷ rest)) >>= λ rest. Some (functions_of cs ++ rest)) ≡ r
  unfolding finished_all left
  next o others e = sym (ap (λ l. finished_all fs (outlines_of l) >>= λ rest. Some (functions_of cs ++ rest)) e) ∙ so_far

  pub body_on : (o : code_outline.Outline) (others : List code_outline.Outline) (c : code_function.Function) (new : List code_function.Function) → os ≡ o ∷ others → finished fs (outline_of o) ≡ Some (function_of c) → new ≡ cs ++ (c ∷ []) → (finished_all fs (outlines_of others) >>= λ rest. Some (functions_of new ++ rest)) ≡ r
  unfolding left
  body_on o others c new e is pushed =
      ap (λ l. left others >>= λ rest. Some (functions_of l ++ rest)) pushed ∙ after_functions (left others) cs c
      ∙ sym (ap (λ b. (b >>= λ c. left others >>= λ rest. Some (c ∷ rest)) >>= λ rest. Some (functions_of cs ++ rest)) is) ∙ next o others e

  pub body_over : (o : code_outline.Outline) (others : List code_outline.Outline) (error : CheckError) → os ≡ o ∷ others → Denies error (finished fs (outline_of o)) → Denies error r
  body_over o others (errors.Refused code at) e is =
      sym (next o others e) ∙ ap (λ b. (b >>= λ c. left others >>= λ rest. Some (c ∷ rest)) >>= λ rest. Some (functions_of cs ++ rest)) is
  body_over o others errors.Memory e is = tt

  pub bodies_end : length os ≡ 0 → r ≡ Some (functions_of cs)
  unfolding finished_all
  bodies_end none =
      sym so_far ∙ ap (λ l. finished_all fs (outlines_of l) >>= λ rest. Some (functions_of cs ++ rest)) (nil_from_length os none) ∙ ap Some (append-nil (functions_of cs))
