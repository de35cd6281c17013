use Rattle.std.proofs.Common.{◌%◌, ◌^◌, ap, ◌∙◌}
use Rattle.jd_circuit.specs.Net.{variables}
use Rattle.jd_places.proofs.SmallCounts.{ones_kept}
use Rattle.jd_rows.proofs.SameAnswers.{same_plain}
use Rattle.jd_places.proofs.place_counts.ones_of.Goals as goal

pub returns-clause-fits : goal.returns-clause-fits
returns-clause-fits g c = rw c.plain.ensures (record {
  pattern = record { size = c.resized-pattern.ensures.length ∙ c.len.ensures.len; inside = c.resized-pattern.ensures.inside (variables c.count_of_ones.new.c) c.in_ok-count.ensures.of };
  carry = tt;
  range = tt;
})

pub returns-clause-meaning : goal.returns-clause-meaning
returns-clause-meaning g c = λ val s.
    rw c.plain.ensures (same_plain _ _ (ones_kept _ _ _ _ c.len.ensures.len (c.resized-pattern.ensures.number val ∙ ap (λ n. n % 2 ^ c.len.result) (c.in_ok-count.ensures.number val s))))
