-- What the operations of a draw do.
use Rattle.std.proofs.Common.{◌≡◌, ℕ, zero, suc, ◌<◌, Bool, true, false, List, [], ◌∷◌, ◌&&◌, ◌==◌, nat_lt, arith, refl, None, inl, inr}
use Rattle.hp_model.specs.declared.Base.TheVariants.{Hex}
use Rattle.hp_model.specs.declared.Mode.TheVariants.{Unsigned}
use Rattle.hp_model.specs.Operations.{Operation}
use Rattle.hp_model.specs.State.{Data, Machine, standard_bytes}
use Rattle.jd_generated.specs.Generated.{Draw, double, complement, negation, turn, five_more, in_first, in_second}
use Rattle.std.proofs.lemmas.Bool.{eqb-true, ltb-true, false≢true, cases_lt}
use Rattle.jd_generated.proofs.Lines.{done_all, GoOn}

-- what no draw looks at
pub record Rest : Type 0 where
  pub last : ℕ
  pub index : ℕ
  pub flags : List Bool
  pub nibbles : List ℕ

abbrev pub rest_of : Data → Rest
rest_of d = record { last = d.last; index = d.index; flags = d.flags; nibbles = d.nibbles }

-- between draws: after i lines, X in the stack with zeros above it, lift enabled and no entry
abbrev pub ready : List ℕ → ℕ → ℕ → ℕ → Rest → Machine
ready program blocks i x r = record {
  control = record {
    bytes = standard_bytes;
    size = 8;
    mode = Unsigned;
    base = Hex;
    line = suc i;
    program = program;
    blocks = blocks;
    calls = [];
    lift = true;
    entry = None;
    window = 0;
  };
  contents = record { x = x; y = 0; z = 0; t = 0; last = r.last; index = r.index; flags = r.flags; nibbles = r.nibbles };
}

abbrev pub lines_on : List Operation → ℕ → ℕ
lines_on [] i = i
lines_on (op ∷ ops) i = lines_on ops (suc i)

abbrev pub nothing : Rest
nothing = record { last = 0; index = 0; flags = []; nibbles = [] }

-- X after some operations
abbrev pub x_after : List Operation → ℕ → ℕ
x_after ops x = (done_all ops (ready [] 0 0 x nothing)).contents.x

pub record Serves (words : Draw → List Operation) : Type 0 where
  pub goes : (draw : Draw) (program : List ℕ) (blocks i x : ℕ) (r : Rest) → GoOn (words draw) (ready program blocks i x r)
  pub shape : (draw : Draw) (program : List ℕ) (blocks i x : ℕ) (r : Rest) → done_all (words draw) (ready program blocks i x r)
      ≡ ready program blocks (lines_on (words draw) i) (x_after (words draw) x) (rest_of (done_all (words draw) (ready program blocks i x r)).contents)

pub first-serves : Serves in_first
first-serves = record { goes = goes; shape = shape }
  where
    goes : (draw : Draw) (program : List ℕ) (blocks i x : ℕ) (r : Rest) → GoOn (in_first draw) (ready program blocks i x r)
    goes double program blocks i x r = (refl, refl, refl, refl, tt)
    goes complement program blocks i x r = (refl, refl, refl, refl, tt)
    goes negation program blocks i x r = (refl, refl, refl, refl, tt)
    goes turn program blocks i x r = (refl, refl, refl, refl, tt)
    goes five_more program blocks i x r = (refl, refl, refl, refl, (refl, refl, refl, refl, tt))

    shape : (draw : Draw) (program : List ℕ) (blocks i x : ℕ) (r : Rest) → done_all (in_first draw) (ready program blocks i x r)
        ≡ ready program blocks (lines_on (in_first draw) i) (x_after (in_first draw) x) (rest_of (done_all (in_first draw) (ready program blocks i x r)).contents)
    shape double program blocks i x r = refl
    shape complement program blocks i x r = refl
    shape negation program blocks i x r = refl
    shape turn program blocks i x r = refl
    shape five_more program blocks i x r = refl

pub second-serves : Serves in_second
second-serves = record { goes = goes; shape = shape }
  where
    goes : (draw : Draw) (program : List ℕ) (blocks i x : ℕ) (r : Rest) → GoOn (in_second draw) (ready program blocks i x r)
    goes double program blocks i x r = (refl, refl, refl, refl, (refl, refl, refl, refl, tt))
    goes complement program blocks i x r = (refl, refl, refl, refl, (refl, refl, refl, refl, (refl, refl, refl, refl, tt)))
    goes negation program blocks i x r = (refl, refl, refl, refl, (refl, refl, refl, refl, (refl, refl, refl, refl, tt)))
    goes turn program blocks i x r = (refl, refl, refl, refl, (refl, refl, refl, refl, (refl, refl, refl, refl, (refl, refl, refl, refl, (refl, refl, refl, refl, (refl, refl, refl, refl, (refl, refl, refl, refl, tt)))))))
    goes five_more program blocks i x r = (refl, refl, refl, refl, (refl, refl, refl, refl, (refl, refl, refl, refl, (refl, refl, refl, refl, tt))))

    shape : (draw : Draw) (program : List ℕ) (blocks i x : ℕ) (r : Rest) → done_all (in_second draw) (ready program blocks i x r)
        ≡ ready program blocks (lines_on (in_second draw) i) (x_after (in_second draw) x) (rest_of (done_all (in_second draw) (ready program blocks i x r)).contents)
    shape double program blocks i x r = refl
    shape complement program blocks i x r = refl
    shape negation program blocks i x r = refl
    shape turn program blocks i x r = refl
    shape five_more program blocks i x r = refl

-- ---- both say the same

-- whether every number below n passes
abbrev pub all_below : ℕ → (ℕ → Bool) → Bool
all_below zero test = true
all_below (suc n) test = test n && all_below n test

pub first-of : (a b : Bool) → (a && b) ≡ true → a ≡ true
first-of true b e = refl
first-of false b e = e

pub second-of : (a b : Bool) → (a && b) ≡ true → b ≡ true
second-of true b e = e
second-of false b e = absurd (false≢true e)

pub below-passes : (n : ℕ) (test : ℕ → Bool) (x : ℕ) → all_below n test ≡ true → x < n → test x ≡ true
below-passes zero test x all below = absurd (omega arith)
below-passes (suc n) test x all below = elim (cases_lt x n) [
  | inl less ↦ below-passes n test x (second-of (test n) (all_below n test) all) less
  | inr above ↦ (let e : x ≡ n = omega arith in rw e (first-of (test n) (all_below n test) all))
]

-- whether a draw gives one byte in either routine
abbrev pub is_same : Draw → ℕ → Bool
is_same draw x = (x_after (in_first draw) x == x_after (in_second draw) x) && nat_lt (x_after (in_first draw) x) 256

all-same : (draw : Draw) → all_below 256 (is_same draw) ≡ true
all-same double = refl
all-same complement = refl
all-same negation = refl
all-same turn = refl
all-same five_more = refl

pub same-values : (draw : Draw) (x : ℕ) → x < 256 → (x_after (in_first draw) x ≡ x_after (in_second draw) x) × (x_after (in_first draw) x < 256)
same-values draw x below =
    let both = below-passes 256 (is_same draw) x (all-same draw) below in
    (eqb-true (x_after (in_first draw) x) (x_after (in_second draw) x) (first-of (x_after (in_first draw) x == x_after (in_second draw) x) (nat_lt (x_after (in_first draw) x) 256) both), ltb-true (x_after (in_first draw) x) 256 (second-of (x_after (in_first draw) x == x_after (in_second draw) x) (nat_lt (x_after (in_first draw) x) 256) both))
