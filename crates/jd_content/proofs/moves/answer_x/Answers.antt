use Rattle.jd_content.proofs.moves.answer_x.Goals as goal

pub returns : goal.returns
returns c =
    let put = rw (c.save.ensures) at c.put_answer.ensures in
    record {
      meaning = λ val. put.meaning val;
      fits = λ n w h a. put.fits n w (record { x = h.x; y = h.y; z = h.z; t = h.t; l = h.x; i = h.i; flags = h.flags; nibbles = h.nibbles }) a;
      same = put.same;
    }
