use Rattle.std.proofs.Common.{◌∙◌, ap, length, arith}
use Rattle.std.proofs.lemmas.List.{length_push}
use Rattle.jd_propagate.specs.Lists.{Lists, list_at}
use Rattle.jd_propagate.proofs.Attaching.{list_at-more}
use Rattle.jd_propagate.proofs.attach.make_room.Goals as goal

pub room-preserved : goal.room-preserved
room-preserved c =
    let e = c.in_ok-push.ensures.items in
    record {
      same = λ k. ap (λ (xs : Lists). list_at xs k) e ∙ list_at-more c.room.lists.items c.new.result k c.new.ensures.items ∙ c.room.invariant.same k;
      longer = omega (arith, c.room.invariant.longer, ap length e, length_push c.room.lists.items c.new.result);
    }
