use Rattle.std.proofs.Common.{List, Bool, ap, ◌∙◌, refl}
use Rattle.jd_vectors.specs.Number.{number}
use Rattle.jd_rows.specs.Answers.{told}
use Rattle.jd_content.specs.Meaning.{data_on, flag_after}
use Rattle.jd_content.proofs.Contents.{answered_is}
use Rattle.jd_content.proofs.moves.put_answer.Goals as goal

pub returns : goal.returns
returns c =
    let answer = c.args.answer in
    let first = c.set_flag.ensures in
    let second = c.set_flag-2.ensures in
    record {
      meaning = λ val. ap (λ (fs : List Bool). record (data_on val c.args.content.now) { x = number val answer.pattern; flags = fs })
          (second.meaning val ∙ ap (flag_after 5 (told val answer.range)) (first.meaning val)) ∙ answered_is _ _ _ (data_on val c.args.content.now);
      fits = λ n w h a. record {
        x = a.pattern;
        y = h.y;
        z = h.z;
        t = h.t;
        l = h.l;
        i = h.i;
        nibbles = h.nibbles;
        flags = second.inside n (first.inside n h.flags a.carry) a.range;
      };
      same = refl;
    }
