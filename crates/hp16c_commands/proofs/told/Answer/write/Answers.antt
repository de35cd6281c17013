use Rattle.std.proofs.Common.{◌≡◌, true, subst}
use Rattle.hp16c_commands.specs.Told.{is_writable}
use Rattle.hp16c_commands.proofs.InTwoParts.{first-part, second-part, whole-of-both}
use Rattle.hp16c_commands.proofs.told.Answer.write.Goals as goal

pub returns-in_err-write_heading-in-Certificate-clause-part : goal.returns-in_err-write_heading-in-Certificate-clause-part
returns-in_err-write_heading-in-Certificate-clause-part g c =
    let part = c.write_heading.ensures.part in
    rw c.in-Certificate.is (first-part _ _ part.0 _ _ part.1)

pub returns-in_ok-write_heading-in-Certificate-clause-whole : goal.returns-in_ok-write_heading-in-Certificate-clause-whole
returns-in_ok-write_heading-in-Certificate-clause-whole g c =
    rw c.in-Certificate.is (whole-of-both _ _ _ _ _ _ c.in_ok-write_heading-in-Certificate.ensures.whole c.write_cert.ensures.whole)

pub returns-in_ok-write_heading-in-Certificate-clause-part : goal.returns-in_ok-write_heading-in-Certificate-clause-part
returns-in_ok-write_heading-in-Certificate-clause-part g c =
    let part = c.write_cert.ensures.part in
    rw c.in-Certificate.is (second-part _ _ _ part.0 _ _ c.in_ok-write_heading-in-Certificate.ensures.whole part.1)

pub returns-in_err-write_heading-in-Start-clause-part : goal.returns-in_err-write_heading-in-Start-clause-part
returns-in_err-write_heading-in-Start-clause-part g c =
    let part = c.write_heading-in-Start.ensures.part in
    rw c.in-Start.is (first-part _ _ part.0 _ _ part.1)

pub write_start-requires : goal.write_start-requires
write_start-requires g c = subst (λ told. is_writable told ≡ true) c.in-Start.is c.args.self.now.writable

pub returns-in_ok-write_heading-in-Start-clause-whole : goal.returns-in_ok-write_heading-in-Start-clause-whole
returns-in_ok-write_heading-in-Start-clause-whole g c =
    rw c.in-Start.is (whole-of-both _ _ _ _ _ _ c.in_ok-write_heading-in-Start.ensures.whole c.write_start.ensures.whole)

pub returns-in_ok-write_heading-in-Start-clause-part : goal.returns-in_ok-write_heading-in-Start-clause-part
returns-in_ok-write_heading-in-Start-clause-part g c =
    let part = c.write_start.ensures.part in
    rw c.in-Start.is (second-part _ _ _ part.0 _ _ c.in_ok-write_heading-in-Start.ensures.whole part.1)

pub returns-in_err-write_problem-in-Short-clause-part : goal.returns-in_err-write_problem-in-Short-clause-part
returns-in_err-write_problem-in-Short-clause-part g c =
    let part = c.write_problem.ensures.part in
    rw c.in-Short.is (first-part _ _ part.0 _ _ part.1)

pub returns-in_ok-write_problem-in-Short-clause-whole : goal.returns-in_ok-write_problem-in-Short-clause-whole
returns-in_ok-write_problem-in-Short-clause-whole g c =
    rw c.in-Short.is (whole-of-both _ _ _ _ _ _ c.in_ok-write_problem-in-Short.ensures.whole c.write_cert-in-Short.ensures.whole)

pub returns-in_ok-write_problem-in-Short-clause-part : goal.returns-in_ok-write_problem-in-Short-clause-part
returns-in_ok-write_problem-in-Short-clause-part g c =
    let part = c.write_cert-in-Short.ensures.part in
    rw c.in-Short.is (second-part _ _ _ part.0 _ _ c.in_ok-write_problem-in-Short.ensures.whole part.1)
