use Rattle.std.proofs.Common.{◌≡◌, ◌+◌, ◌++◌, ◌∙◌, ap, sym, map, drop, arith, List, ℕ}
use Rattle.std.proofs.lemmas.List.{length-map}
use Rattle.jd_model.specs.Problems.{Problem, fields, free_bits, free_widths, nibble_fields, numbers_in, start_with}
use Rattle.jd_problem.specs.Problems.{problem_of}
use Rattle.jd_circuit.specs.Meaning.{lit_value}
use Rattle.jd_circuit.specs.Net.{at}
use Rattle.jd_content.specs.Meaning.{nibbles_on}
use Rattle.jd_inputs.specs.Inputs.{flag_fields, flag_numbers, word_fields, word_numbers}
use Rattle.jd_inputs.proofs.Fields.{bits_of_literals, join, join_first, start_is, widths_joined}
use Rattle.jd_inputs.proofs.content.start_content.Goals as goal

-- the bits of the words, the flags and the nibbles
widths : (p : Problem) → free_bits p ≡ free_widths (word_fields p) + (free_widths (flag_fields p) + free_widths (nibble_fields p))
widths p = widths_joined (word_fields p) (flag_fields p ++ nibble_fields p) ∙ ap (λ n. free_widths (word_fields p) + n) (widths_joined (flag_fields p) (nibble_fields p))

pub returns-clause-fits : goal.returns-clause-fits
returns-clause-fits c = λ n h.
    let all = widths (problem_of c.args.problem.now) in
    let words = c.start_words-words.ensures in
    let flags = c.start_flags-flags.ensures in
    let w = words.fits n (omega (arith, words.taken, all, h)) in
    record {
      x = w.x;
      y = w.y;
      z = w.z;
      t = w.t;
      l = w.l;
      i = w.i;
      flags = flags.inside n (omega (arith, words.taken, flags.taken, all, h));
      nibbles = c.in_ok-nibbles.ensures.inside n (omega (arith, words.taken, flags.taken, all, h));
    }

pub returns-clause-means : goal.returns-clause-means
returns-clause-means c = λ bits h.
    let p = problem_of c.args.problem.now in
    let words = c.start_words-words.ensures in
    let flags = c.start_flags-flags.ensures in
    let nibbles = c.in_ok-nibbles.ensures in
    let all = widths p in
    let first = words.numbers bits (omega (arith, words.taken, all, h)) in
    let second = flags.numbers bits (omega (arith, words.taken, flags.taken, all, h)) in
    let third = nibbles.numbers bits (omega (arith, words.taken, flags.taken, all, h)) in
    let v = at bits in
    let fs = c.start_flags-flags.result in
    let w = c.start_words-words.result in
    let place = c.start_words-words.new.taken in
    let whole : word_numbers v w ++ (flag_numbers v fs ++ nibbles_on v c.in_ok-nibbles.nibbles) ≡ numbers_in (fields p) bits =
    ap (λ (ns : List ℕ). ns ++ (flag_numbers v fs ++ nibbles_on v c.in_ok-nibbles.nibbles)) first
    ∙ ap (λ (ns : List ℕ). numbers_in (word_fields p) bits ++ ns)
    (ap (λ (ns : List ℕ). ns ++ nibbles_on v c.in_ok-nibbles.nibbles) second
    ∙ ap (λ (ns : List ℕ). numbers_in (flag_fields p) (drop place bits) ++ ns) (third ∙ ap (λ k. numbers_in (nibble_fields p) (drop k bits)) flags.taken)
    ∙ sym (join (flag_fields p) (nibble_fields p) bits place)
    ∙ ap (λ k. numbers_in (flag_fields p ++ nibble_fields p) (drop k bits)) words.taken)
    ∙ sym (join_first (word_fields p) (flag_fields p ++ nibble_fields p) bits) in
    start_is _ _ _ _ _ _ (map (lit_value v) fs) _ (length-map fs (lit_value v) ∙ flags.length)
    ∙ ap start_with (ap (λ (ns : List ℕ). word_numbers v w ++ (ns ++ nibbles_on v c.in_ok-nibbles.nibbles)) (bits_of_literals (lit_value v) fs) ∙ whole)
