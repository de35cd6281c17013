-- Questions, and their literals over two inputs, worked by computation.
use Rattle.std.proofs.Common.{◌≡◌, true, false, List, [], ◌∷◌, Some, None, refl, lit≤}
use Rattle.hp_model.specs.declared.Base.TheVariants.{Hex}
use Rattle.hp_model.specs.declared.Mode.TheVariants.{Unsigned}
use Rattle.hp_model.specs.Operations as ops
use Rattle.hp_model.specs.State.{Control, Data}
use Rattle.hp_model.specs.Questions as questions
use Rattle.hp_ops.specs.declared.groups.Loop.TheVariants as loop
use Rattle.jd_circuit.specs.declared.literals.Lit.{Lit}
use Rattle.jd_circuit.specs.declared.literals.Lit.TheVariants.{Const, Var, Not}
use Rattle.jd_circuit.specs.Net.{Net}
use Rattle.jd_content.specs.declared.content.SymContent.{SymContent}
use Rattle.jd_questions.specs.declared.question.Question.TheVariants as question
use Rattle.jd_questions.specs.declared.numbers.Next.TheVariants as next
use Rattle.jd_questions.specs.Questions.{Asks, IsAsk, IsAsked, asked, asked_gates, asked_if, of_number, question_gates}

-- ---- which question

of_the_code : asked (question.CountIsZero loop.Increment) ≡ questions.increment_is_zero
of_the_code = refl

a_bit : asked_if (Some (question.IndexBit 3)) ≡ Some (questions.index_bit_is_set 3)
a_bit = refl

no_question : asked_if None ≡ None
no_question = refl

too_great : of_number next.First questions.magnitude_above_64 questions.magnitude_bit_is_set ≡ Some questions.magnitude_above_64
too_great = refl

spelled : of_number (next.Bit 6) questions.magnitude_above_64 questions.magnitude_bit_is_set ≡ Some (questions.magnitude_bit_is_set 6)
spelled = refl

spelled_whole : of_number next.Done questions.magnitude_above_64 questions.magnitude_bit_is_set ≡ None
spelled_whole = refl

-- ---- how many gates

of_a_quotient : question_gates questions.quotient_is_too_great ≡ 69632
of_a_quotient = refl

of_a_zero : question_gates questions.x_is_zero ≡ 4096
of_a_zero = refl

of_none : asked_gates None ≡ 0
of_none = refl

-- ---- words of one bit: X is 1, Y is the first input, flag 4 is the negation of the second

abbrev inputs : Net
inputs = record { inputs = 2; gates = [] }

abbrev zeros : List Lit
zeros = Const false ∷ []

abbrev content : SymContent
content = record {
  x = Const true ∷ [];
  y = Var 1 ∷ [];
  z = zeros;
  t = zeros;
  l = zeros;
  i = zeros;
  flags = Const false ∷ Const false ∷ Const false ∷ Const false ∷ Not 2 ∷ Const false ∷ [];
  nibbles = [];
}

abbrev control : Control
control = record {
  bytes = 203;
  size = 1;
  mode = Unsigned;
  base = Hex;
  line = 1;
  program = [];
  blocks = 0;
  calls = [];
  lift = true;
  entry = None;
  window = 0;
}

-- F? 4 is answered by the flag's literal, and asks no more
flag_asked : IsAsk inputs control content (ops.test_flag 4) [] (Not 2)
flag_asked = record { question = questions.flag_is_set 4; next = refl; inside = (lit≤ tt, lit≤ tt); means = λ val s given. refl }

flag_answered : Asks inputs control content (ops.test_flag 4) (true ∷ []) None
flag_answered = refl

-- B? first asks for the place, and after a yes, which is an error, nothing
place_asked : Asks inputs control content ops.test_bit (true ∷ []) None
place_asked = refl

digit_asks_nothing : Asks inputs control content (ops.digit 7) [] None
digit_asks_nothing = refl

-- the bit of Y is asked for below the word's end
the_data : Data
the_data = record { x = 3; y = 8; z = 0; t = 0; last = 0; index = 0; flags = []; nibbles = [] }

bit_of_a_word : IsAsked questions.bit_of_y_is_set (record control { size = 4 }) the_data
unfolding the_data
bit_of_a_word = lit≤ tt
