-- An answer of whose text only a front was written.
use Rattle.std.proofs.Common.{ℕ, ◌+◌, ◌≤◌, List, length, take, drop, Option, refl, sym, subst, inl, inr, take-append-drop}
use Rattle.std.specs.Io.KnownBytes.{Appends}
use Rattle.hp_io.specs.Limited.{IsRest, Takes}
use Rattle.hp16c_commands.specs.declared.whole_inputs.WholeInput.{WholeInput}
use Rattle.hp16c_commands.specs.declared.whole_inputs.WholeInput.TheVariants.{Debug}
use Rattle.hp16c_commands.specs.Answers.{Answer, too_long}
use Rattle.hp16c_commands.specs.Refusals as refusals
use Rattle.hp16c_commands.specs.Debugging.{debug_answer}
use Rattle.hp16c_commands.specs.WholeInputs.{limit_of, IsAnswer, WasCutShort}

pub cut_short : (command : WholeInput) (left0 left written0 written : Option (List ℕ)) (answer : Answer) (n : ℕ) → IsAnswer command left0 left answer
    → Appends written0 written (take n answer.text) → WasCutShort command left0 left written0 written
cut_short command left0 left written0 written answer n is put = record {
  outcome = answer.outcome;
  part = take n answer.text;
  left_out = drop n answer.text;
  answer = subst (λ t. IsAnswer command left0 left (record { outcome = answer.outcome; text = t })) (sym (take-append-drop n answer.text)) is;
  put = put;
}

-- that of a script, and that of one which is too long
module _ (left0 left written0 written : Option (List ℕ)) where
  pub cut-script : (bytes : List ℕ) → IsRest left0 left bytes → length bytes ≤ limit_of Debug
      → ((n : ℕ) × Appends written0 written (take n (debug_answer bytes).text)) → WasCutShort Debug left0 left written0 written
  cut-script bytes rest few part =
      cut_short Debug left0 left written0 written (debug_answer bytes) part.0 (inl (record { taken = bytes; rest = rest; within = few; answers = refl })) part.1

  pub cut-limit : Takes (limit_of Debug + 1) left0 left → ((n : ℕ) × Appends written0 written (take n refusals.too_long)) → WasCutShort Debug left0 left written0 written
  cut-limit took part = cut_short Debug left0 left written0 written too_long part.0 (inr (record { took = took; answer_is = refl })) part.1
