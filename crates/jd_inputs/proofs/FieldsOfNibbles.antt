-- Nibbles of literals mean the numbers of their fields.
use Rattle.std.proofs.Common.{◌≡◌, ℕ, zero, suc, ◌+◌, ◌-◌, ◌*◌, ◌/◌, ◌<◌, ◌≤◌, Bool, false, List, ◌∷◌, length, take, drop, replicate, refl, sym, ap, ◌∙◌, arith}
use Rattle.std.proofs.lemmas.List.{drop-drop, length-replicate}
use Rattle.hp_model.specs.Lists.{tabulated, tabulated_from}
use Rattle.hp_model.specs.Words.{number_of_bits}
use Rattle.hp_model.proofs.Tabulated.{same_tabulated, length-tabulated}
use Rattle.jd_model.specs.Problems.{free_widths, numbers_in}
use Rattle.jd_circuit.specs.declared.literals.Lit.{Lit}
use Rattle.jd_circuit.specs.declared.literals.Lit.TheVariants.{Const}
use Rattle.jd_circuit.specs.Net.{at}
use Rattle.jd_vectors.specs.Number.{number}
use Rattle.jd_content.specs.Meaning.{nibble_on, nibbles_on}
use Rattle.jd_content.proofs.Cleared.{cleared}
use Rattle.jd_inputs.specs.Inputs.{inputs_from}
use Rattle.jd_inputs.specs.Nibbles.{free_nibble, zero_nibble}
use Rattle.jd_inputs.proofs.Inputs.{inputs-number, length-inputs}

-- ---- free nibbles

drop_inputs : (k m t : ℕ) → k ≤ m → drop k (inputs_from m t) ≡ inputs_from (m - k) (t + k)
drop_inputs zero m t h =
    let all : m ≡ m - 0 = omega arith in
    let here : t ≡ t + 0 = omega arith in
    ap (λ n. inputs_from n t) all ∙ ap (inputs_from (m - 0)) here
drop_inputs (suc k) zero t h = absurd (omega arith)
drop_inputs (suc k) (suc m) t h =
    let place : suc t + k ≡ t + suc k = omega arith in
    let left : m - k ≡ suc m - suc k = omega arith in
    drop_inputs k m (suc t) (omega arith) ∙ ap (inputs_from (m - k)) place ∙ ap (λ n. inputs_from n (t + suc k)) left

four : (m r t : ℕ) → m ≡ suc (suc (suc (suc r))) → take 4 (inputs_from m t) ≡ inputs_from 4 t
four m r t e = rw e refl

nibble_is : (bits : List Bool) (count t j : ℕ) → t + 4 * count ≤ length bits → j < count → nibble_on (at bits) (inputs_from (4 * count) t) j ≡ number_of_bits (take 4 (drop (t + 4 * j) bits))
nibble_is bits count t j h below =
    ap (λ (ls : List Lit). number (at bits) (take 4 ls)) (drop_inputs (4 * j) (4 * count) t (omega arith))
    ∙ ap (number (at bits)) (four (4 * count - 4 * j) (4 * count - 4 * j - 4) (t + 4 * j) (omega arith))
    ∙ inputs-number bits 4 (t + 4 * j) (omega arith)

in_order : (bits : List Bool) (t first n : ℕ) → tabulated_from (λ j. number_of_bits (take 4 (drop (t + 4 * j) bits))) first n ≡ numbers_in (replicate n free_nibble) (drop (t + 4 * first) bits)
in_order bits t first zero = refl
in_order bits t first (suc n) =
    let next : t + 4 * suc first ≡ t + 4 * first + 4 = omega arith in
    let moved : drop (t + 4 * suc first) bits ≡ drop 4 (drop (t + 4 * first) bits) = ap (λ k. drop k bits) next ∙ sym (drop-drop 4 (t + 4 * first) bits) in
    ap (λ (ns : List ℕ). number_of_bits (take 4 (drop (t + 4 * first) bits)) ∷ ns) (in_order bits t (suc first) n ∙ ap (numbers_in (replicate n free_nibble)) moved)

pub free_numbers : (bits : List Bool) (count t : ℕ) → t + 4 * count ≤ length bits → nibbles_on (at bits) (inputs_from (4 * count) t) ≡ numbers_in (replicate count free_nibble) (drop t bits)
free_numbers bits count t h =
    let size : length (inputs_from (4 * count) t) / 4 ≡ count = omega (arith, length-inputs (4 * count) t) in
    let here : t + 4 * 0 ≡ t = omega arith in
    ap (tabulated (nibble_on (at bits) (inputs_from (4 * count) t))) size
    ∙ same_tabulated (nibble_on (at bits) (inputs_from (4 * count) t)) (λ j. number_of_bits (take 4 (drop (t + 4 * j) bits))) count (λ j below. nibble_is bits count t j h below)
    ∙ in_order bits t 0 count ∙ ap (λ k. numbers_in (replicate count free_nibble) (drop k bits)) here

pub free_count : (n : ℕ) → free_widths (replicate n free_nibble) ≡ 4 * n
free_count zero = refl
free_count (suc n) = omega (arith, free_count n)

-- ---- nibbles that are zero

all_zero : (n : ℕ) (rest : List Bool) → replicate n 0 ≡ numbers_in (replicate n zero_nibble) rest
all_zero zero rest = refl
all_zero (suc n) rest = ap (λ (ns : List ℕ). 0 ∷ ns) (all_zero n rest)

pub zero_numbers : (val : ℕ → Bool) (count : ℕ) (rest : List Bool) → nibbles_on val (replicate (4 * count) (Const false)) ≡ numbers_in (replicate count zero_nibble) rest
zero_numbers val count rest =
    let ls = replicate (4 * count) (Const false) in
    let size : length ls ≡ 4 * count = length-replicate (4 * count) (Const false) in
    let nibbles : length (nibbles_on val ls) ≡ count = length-tabulated (nibble_on val ls) (length ls / 4) ∙ omega (arith, size) in
    ap (λ n. nibbles_on val (replicate n (Const false))) (sym size) ∙ cleared val ls ∙ ap (λ n. replicate n 0) nibbles ∙ all_zero count rest

pub zero_count : (n : ℕ) → free_widths (replicate n zero_nibble) ≡ 0
zero_count zero = refl
zero_count (suc n) = omega (arith, zero_count n)
