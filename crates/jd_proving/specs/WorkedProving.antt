-- Worked answers of a search for a proof.
use Rattle.std.specs.Prelude.{◌≡◌, ℤ, pos, negsuc, true, false, List, [], ◌∷◌}
use Rattle.jd_logic.specs.declared.Line.{Line}
use Rattle.jd_logic.specs.declared.Line.TheVariants.{Derive}
use Rattle.jd_proving.specs.Propagation.{propagated, is_new, is_exhausted}
use Rattle.jd_proving.specs.Proving.{is_decided, is_refutation, is_model}

abbrev pub not_1 : ℤ
not_1 = negsuc 0

abbrev pub not_2 : ℤ
not_2 = negsuc 1

abbrev pub not_3 : ℤ
not_3 = negsuc 2

-- all clauses of three variables
abbrev pub eight : List (List ℤ)
eight =
    (pos 1 ∷ pos 2 ∷ pos 3 ∷ []) ∷ (pos 1 ∷ pos 2 ∷ not_3 ∷ []) ∷ (pos 1 ∷ not_2 ∷ pos 3 ∷ []) ∷ (pos 1 ∷ not_2 ∷ not_3 ∷ [])
    ∷ (not_1 ∷ pos 2 ∷ pos 3 ∷ []) ∷ (not_1 ∷ pos 2 ∷ not_3 ∷ []) ∷ (not_1 ∷ not_2 ∷ pos 3 ∷ []) ∷ (not_1 ∷ not_2 ∷ not_3 ∷ []) ∷ []

abbrev pub first_line : Line
first_line = Derive 9 (pos 1 ∷ pos 2 ∷ []) (pos 1 ∷ pos 2 ∷ [])

abbrev pub whole_log : List Line
whole_log =
    first_line
    ∷ Derive 10 (pos 1 ∷ []) (pos 9 ∷ pos 3 ∷ pos 4 ∷ [])
    ∷ Derive 11 (pos 2 ∷ []) (pos 10 ∷ pos 5 ∷ pos 6 ∷ [])
    ∷ Derive 12 [] (pos 10 ∷ pos 11 ∷ pos 7 ∷ pos 8 ∷ []) ∷ []

pub record WorkedProving : Type 0 where
  pub budget_of_one : is_exhausted eight 1 (first_line ∷ []) ≡ true
  pub empty_log : is_exhausted eight 1 [] ≡ false
  pub refuted : is_refutation eight whole_log ≡ true
  pub cut_off : is_refutation eight (first_line ∷ []) ≡ false
  -- the empty clause is no line of an exhausted log
  pub whole_exhausted : is_exhausted eight 4 whole_log ≡ false
  pub model : is_model ((pos 1 ∷ []) ∷ []) 1 (true ∷ []) ≡ true
  pub no_model : is_model ((pos 1 ∷ []) ∷ []) 1 (false ∷ []) ≡ false
  pub wrong_length : is_model ((pos 1 ∷ []) ∷ []) 1 [] ≡ false
  pub empty_given : is_refutation ([] ∷ []) [] ≡ true
  pub line_after_empty : is_refutation ([] ∷ []) (Derive 2 [] (pos 1 ∷ []) ∷ []) ≡ false
  -- a line again, and one with a literal more, aren't new
  pub repeated : is_exhausted eight 2 (first_line ∷ Derive 10 (pos 1 ∷ pos 2 ∷ []) (pos 9 ∷ []) ∷ []) ≡ false
  pub weaker : is_new ((pos 1 ∷ pos 2 ∷ []) ∷ []) (pos 1 ∷ pos 2 ∷ pos 3 ∷ []) ≡ false
  -- the last literal counts
  pub given_already : is_new ((pos 1 ∷ pos 2 ∷ []) ∷ (not_2 ∷ pos 3 ∷ []) ∷ []) (pos 1 ∷ pos 3 ∷ []) ≡ false
  pub other_order : is_new ((pos 1 ∷ pos 2 ∷ []) ∷ (not_2 ∷ pos 3 ∷ []) ∷ []) (pos 3 ∷ pos 1 ∷ []) ≡ false
  pub new_in_one_order : is_new ((pos 1 ∷ pos 2 ∷ pos 3 ∷ []) ∷ []) (pos 1 ∷ pos 2 ∷ []) ≡ true
  -- propagation goes on against the order of the clauses
  pub backwards : propagated (pos 1 ∷ []) ((not_2 ∷ pos 3 ∷ []) ∷ (not_1 ∷ pos 2 ∷ []) ∷ []) ≡ (pos 1 ∷ pos 2 ∷ pos 3 ∷ [])
  pub repeated_literal : propagated [] ((pos 1 ∷ pos 1 ∷ []) ∷ []) ≡ (pos 1 ∷ [])
  pub undecided : is_decided ((pos 1 ∷ pos 2 ∷ []) ∷ []) (true ∷ []) ≡ false
  pub decided : is_decided ((not_1 ∷ pos 2 ∷ []) ∷ (pos 1 ∷ not_2 ∷ []) ∷ []) (true ∷ []) ≡ true
