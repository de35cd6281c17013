use Rattle.std.proofs.Common.{rules, refl}
use Rattle.hp16c_commands.proofs.Answered.{written_whole, bad_answered, limit_answered, bad_cut, limit_cut, told_whole}
use Rattle.hp16c_commands.proofs.key_files.keys.Goals as goal

pub returns-in-BadWord-clause-bad_input : goal.returns-in-BadWord-clause-bad_input
returns-in-BadWord-clause-bad_input g c =
    let put = rw c.from.ensures at c.write_bad_line.ensures.whole in
    λ is. bad_answered _ c.in-BadWord.ensures.bad_word (written_whole _ _ _ c.after.ensures (search rules) is put)

pub returns-in-BadWord-clause-write_fault : goal.returns-in-BadWord-clause-write_fault
returns-in-BadWord-clause-write_fault g c =
    let part = rw c.from.ensures at c.write_bad_line.ensures.part in
    λ _. bad_cut _ part.0 c.in-BadWord.ensures.bad_word part.1

pub returns-in-BadWord-clause-told_text : goal.returns-in-BadWord-clause-told_text
returns-in-BadWord-clause-told_text g c =
    let put = rw c.from.ensures at c.write_bad_line.ensures.whole in
    told_whole _ _ _ _ _ _ _ _ c.after.ensures c.in-BadWord.ensures.told_end c.in-BadWord.ensures.told_text put

pub returns-in-TooLong-clause-limit : goal.returns-in-TooLong-clause-limit
returns-in-TooLong-clause-limit g c =
    λ is. limit_answered _ (c.in-TooLong.ensures.too_long refl) (written_whole _ _ _ c.after-in-TooLong.ensures (search rules) is c.write_too_long.ensures.whole)

pub returns-in-TooLong-clause-write_fault : goal.returns-in-TooLong-clause-write_fault
returns-in-TooLong-clause-write_fault g c =
    let part = c.write_too_long.ensures.part in
    λ _. limit_cut _ part.0 (c.in-TooLong.ensures.too_long refl) part.1

pub returns-in-TooLong-clause-told_text : goal.returns-in-TooLong-clause-told_text
returns-in-TooLong-clause-told_text g c =
    told_whole _ _ _ _ _ _ _ _ c.after-in-TooLong.ensures c.in-TooLong.ensures.told_end c.in-TooLong.ensures.told_text c.write_too_long.ensures.whole
