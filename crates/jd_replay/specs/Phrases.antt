-- Phrases of words as they are written.
use Rattle.std.specs.Prelude.{ℕ, List, flat_map}
use Rattle.jd_start.specs.Written.{spaced}

-- the words of some phrases, with a blank before each
abbrev pub phrases : List (List (List ℕ)) → List ℕ
phrases lists = spaced (flat_map (λ words. words) lists)
