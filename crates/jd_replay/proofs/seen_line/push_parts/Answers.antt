use Rattle.std.proofs.Common.{◌≡◌, arith, sym, ap, ◌∙◌, ◌+◌, ◌++◌, ◌∷◌, [], cond, get_or, drop, false, length, append-nil, suc}
use Rattle.jd_text.specs.Digits.{hexadecimal}
use Rattle.jd_model.specs.Problems.{content_numbers}
use Rattle.jd_model.specs.ProblemLines.{part_names}
use Rattle.jd_model.specs.ProblemWriter.{chosen}
use Rattle.jd_model.specs.StartTexts.{memory_words}
use Rattle.jd_model.specs.Seen.{part_words}
use Rattle.jd_start.specs.Parts.{marks_of}
use Rattle.jd_start.specs.Starts.{start_data}
use Rattle.jd_start.proofs.PartByPart.{goes-on}
use Rattle.jd_replay.specs.Phrases.{phrases}
use Rattle.jd_replay.proofs.PartPhrases.{named-phrase, phrases-next, count-phrases, last-phrase, phrases-end}
use Rattle.jd_replay.proofs.seen_line.push_parts.Goals as goal

pub loop-place-preserved : goal.loop-place-preserved
loop-place-preserved c =
    let l = c.loop-place in
    let marks = marks_of c.args.observed.now in
    let there = start_data c.args.start.now in
    let lists = part_words there in
    let same : c.content_numbers-numbers.result ≡ content_numbers there = c.content_numbers-numbers.ensures.value in
    let twelve : length (content_numbers there) ≡ 12 = ap length (sym same) ∙ omega arith in
    let phrase : get_or lists l.place [] ≡ get_or part_names l.place [] ∷ hexadecimal (get_or (content_numbers there) l.place 0) ∷ [] =
    named-phrase part_names (content_numbers there) (memory_words there.nibbles) l.place (omega (arith, c.loop-place-test.true)) (omega (arith, c.loop-place-test.true, twelve)) in
    record {
      text = goes-on l.text.bytes c.push_part.new.text.bytes (phrases (cond (get_or marks l.place false) (get_or lists l.place [] ∷ []) []))
          (phrases (chosen (drop l.place marks) (drop l.place lists))) (phrases (chosen (drop (l.place + 1) marks) (drop (l.place + 1) lists)))
          (c.args.text.now.bytes ++ phrases (chosen marks lists))
          (c.push_part.ensures.text
          ∙ ap (λ name. l.text.bytes ++ phrases (cond c.contains.result ((name ∷ hexadecimal (get_or c.content_numbers-numbers.result l.place 0) ∷ []) ∷ []) [])) c.part_name.ensures.name
          ∙ ap (λ numbers. l.text.bytes ++ phrases (cond c.contains.result ((get_or part_names l.place [] ∷ hexadecimal (get_or numbers l.place 0) ∷ []) ∷ []) [])) same
          ∙ ap (λ words. l.text.bytes ++ phrases (cond c.contains.result (words ∷ []) [])) (sym phrase)
          ∙ ap (λ shown. l.text.bytes ++ phrases (cond shown (get_or lists l.place [] ∷ []) [])) (c.contains.ensures ∙ ap (λ k. get_or marks k false) c.part_at.ensures))
          (phrases-next marks lists l.place (omega (arith, c.loop-place-test.true, twelve, count-phrases part_names (content_numbers there) (memory_words there.nibbles) (omega (arith, twelve)))))
          l.invariant.text;
      len = omega arith;
    }

pub returns-clause-text : goal.returns-clause-text
returns-clause-text c =
    let l = c.loop-place in
    let marks = marks_of c.args.observed.now in
    let there = start_data c.args.start.now in
    let lists = part_words there in
    let same : c.content_numbers-numbers.result ≡ content_numbers there = c.content_numbers-numbers.ensures.value in
    let twelve : length (content_numbers there) ≡ 12 = ap length (sym same) ∙ omega arith in
    let at : l.place ≡ 12 = omega arith in
    let count : length lists ≡ suc (length (content_numbers there)) = count-phrases part_names (content_numbers there) (memory_words there.nibbles) (omega (arith, twelve)) in
    let phrase : get_or lists l.place [] ≡ memory_words there.nibbles =
    last-phrase part_names (content_numbers there) (memory_words there.nibbles) l.place (omega (arith, twelve)) (omega (arith, twelve, at)) in
    let all = goes-on l.text.bytes c.push_memory.new.text.bytes (phrases (cond (get_or marks l.place false) (get_or lists l.place [] ∷ []) []))
    (phrases (chosen (drop l.place marks) (drop l.place lists))) (phrases (chosen (drop (l.place + 1) marks) (drop (l.place + 1) lists)))
    (c.args.text.now.bytes ++ phrases (chosen marks lists))
    (c.push_memory.ensures.text
    ∙ ap (λ words. l.text.bytes ++ phrases (cond c.contains-2.result (words ∷ []) [])) (sym phrase)
    ∙ ap (λ shown. l.text.bytes ++ phrases (cond shown (get_or lists l.place [] ∷ []) [])) (c.contains-2.ensures ∙ ap (λ k. get_or marks k false) (sym at)))
    (phrases-next marks lists l.place (omega (arith, count, twelve, at))) l.invariant.text in
    sym (append-nil c.push_memory.new.text.bytes)
    ∙ ap (λ rest. c.push_memory.new.text.bytes ++ rest) (sym (phrases-end marks lists (l.place + 1) (omega (arith, count, twelve, at)))) ∙ all
