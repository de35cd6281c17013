use Rattle.std.proofs.Common.{◌≡◌, ℕ, ◌+◌, ◌-◌, ◌<◌, ◌∷◌, List, Some, sym, ap, ◌∙◌, arith}
use Rattle.std.specs.Prelude.{option_map}
use Rattle.jd_text.specs.Digits.{decimal_number}
use Rattle.jd_text.specs.Places.{words_at}
use Rattle.jd_formulas.specs.Formulas.{operands}
use Rattle.jd_spec_texts.specs.FormulaWords.{are_kept, formula_told, pushed, read_in}
use Rattle.jd_spec_texts.specs.SpecLines.{power_token, token_named, tokens_named, whole_formula, with_token}
use Rattle.jd_spec_texts.proofs.FormulaReading.{begin, plain-step, power-one, power-step, stopped, too-many, turned}
use Rattle.jd_spec_texts.proofs.formulas.take_formula.Goals as goal

pub words-init : goal.words-init
words-init c =
    let o = tokens_named (words_at c.args.line.now c.args.from) in
    record {
      within = c.requires;
      few = omega arith;
      kept = ap are_kept c.new.ensures;
      same = ap (λ ts. read_in 1 (Some ts) o) c.new.ensures ∙ begin o;
    }

pub returns-then-missing-eq0 : goal.returns-then-missing-eq0
returns-then-missing-eq0 c =
    let line = c.args.line.now in
    too-many c.words.kept c.in-Some.word.now (words_at line c.in-Some.end) (formula_told (whole_formula (tokens_named (words_at line c.args.from)))) c.words.missing c.if-missing-eq0.true
    (ap (λ ws. read_in c.words.missing c.words.kept (tokens_named ws)) (sym c.in-Some.ensures.words) ∙ c.words.invariant.same)

pub words-preserved-in-Some-power_named : goal.words-preserved-in-Some-power_named
words-preserved-in-Some-power_named c =
    let line = c.args.line.now in
    let m = c.words.missing in
    let kept = c.words.kept in
    let p = c.in-Some-power_named.power in
    let t = power_token p c.in-Some-decimal_number.k in
    let word = c.in-Some.word.now in
    let next = c.in-Some-next_word.next.now in
    let rest = tokens_named (words_at line c.in-Some-next_word.after) in
    let whole = formula_told (whole_formula (tokens_named (words_at line c.args.from))) in
    let some : 0 < m = omega (arith, c.if-missing-eq0.false) in
    let is : tokens_named (words_at line c.words.at) ≡ with_token (option_map (power_token p) (decimal_number next)) rest =
    ap tokens_named (c.in-Some.ensures.words ∙ ap {B = List (List ℕ)} (λ ws. word ∷ ws) c.in-Some-next_word.ensures.words)
    ∙ power-step word next (words_at line c.in-Some-next_word.after) p (sym c.in-Some-power_named.ensures) in
    let one : option_map (power_token p) (decimal_number next) ≡ Some t = ap (option_map (power_token p)) (sym c.in-Some-decimal_number.ensures.value) in
    let same_count : m - 1 + operands t ≡ m = omega (arith, some, power-one p c.in-Some-decimal_number.k) in
    record {
      within = c.in-Some-next_word.ensures.within;
      few = omega (arith, c.words.invariant.few, c.in-Some.ensures.after, c.in-Some-next_word.ensures.after);
      kept = c.push_power-kept.ensures.kept;
      same =
          ap (λ x. read_in m x rest) c.push_power-kept.ensures.pushed ∙ ap (λ n. read_in n (pushed kept t) rest) (sym same_count)
          ∙ turned m kept (option_map (power_token p) (decimal_number next)) t rest (tokens_named (words_at line c.words.at)) whole some is one c.words.invariant.same;
    }

pub returns-in_default-token_named : goal.returns-in_default-token_named
returns-in_default-token_named c =
    let line = c.args.line.now in
    let word = c.in-Some.word.now in
    let rest = tokens_named (words_at line c.in-Some.end) in
    stopped c.words.missing c.words.kept (token_named word) rest (tokens_named (words_at line c.words.at)) (formula_told (whole_formula (tokens_named (words_at line c.args.from))))
    (ap tokens_named c.in-Some.ensures.words ∙ plain-step word (words_at line c.in-Some.end) (sym c.in-None.ensures)) (sym c.in_default-token_named.ensures) c.words.invariant.same

pub words-preserved : goal.words-preserved
words-preserved c =
    let line = c.args.line.now in
    let m = c.words.missing in
    let kept = c.words.kept in
    let t = c.in-Some-token_named.token in
    let word = c.in-Some.word.now in
    let rest = tokens_named (words_at line c.in-Some.end) in
    let whole = formula_told (whole_formula (tokens_named (words_at line c.args.from))) in
    let some : 0 < m = omega (arith, c.if-missing-eq0.false) in
    let is : tokens_named (words_at line c.words.at) ≡ with_token (token_named word) rest =
    ap tokens_named c.in-Some.ensures.words ∙ plain-step word (words_at line c.in-Some.end) (sym c.in-None.ensures) in
    let count : c.from.result ≡ operands t = c.from.ensures ∙ c.operands.ensures.count in
    record {
      within = c.in-Some.ensures.within;
      few = omega (arith, c.words.invariant.few, c.in-Some.ensures.after, c.from.ensures, c.operands.ensures.bound, some);
      kept = c.push-kept.ensures.kept;
      same =
          ap (λ x. read_in (m - 1 + c.from.result) x rest) c.push-kept.ensures.pushed ∙ ap (λ n. read_in (m - 1 + n) (pushed kept t) rest) count
          ∙ turned m kept (token_named word) t rest (tokens_named (words_at line c.words.at)) whole some is (sym c.in-Some-token_named.ensures) c.words.invariant.same;
    }
