-- Certificates as texts: the nodes that the lines tell, or the first bad line.
use Rattle.std.specs.Prelude.{ℕ, suc, ⊤, if◌then◌else◌, List, [], ◌∷◌, ◌++◌, length, Result, Ok, Err, Some, None}
use Rattle.jd_logic.specs.declared.Line.{Line}
use Rattle.jd_text.specs.Words.{word_lines}
use Rattle.jd_text.specs.Readings.{read_lines}
use Rattle.jd_trees.specs.declared.Kind.{Kind}
use Rattle.jd_trees.specs.declared.Kind.TheVariants as kinds
use Rattle.jd_trees.specs.declared.Node.{Node}
use Rattle.jd_trees.specs.declared.Node.TheVariants as nodes_as
use Rattle.jd_trees.specs.declared.Spot.{Spot}
use Rattle.jd_trees.specs.declared.CertEvent.{CertEvent}
use Rattle.jd_trees.specs.declared.CertEvent.TheVariants.{Nothing, Fork, Leaf, Cut, Proof, End}
use Rattle.jd_trees.specs.Trees.{node}
use Rattle.jd_trees.specs.CertLines.{first_spot, is_whole, Said, said}

-- what events tell: the nodes that are whole, and the leaf or cut that began last
pub record Told : Type 0 where
  pub nodes : List Node
  pub kind : Kind
  pub log : List Line

abbrev pub nothing_told : Told
nothing_told = record { nodes = []; kind = kinds.Whole; log = [] }

abbrev pub with_event : Told → CertEvent → Told
with_event t Nothing = t
with_event t Fork = record t { nodes = t.nodes ++ nodes_as.Fork ∷ [] }
with_event t Leaf = record t { kind = kinds.Whole; log = [] }
with_event t Cut = record t { kind = kinds.Cut; log = [] }
with_event t (Proof line) = record t { log = t.log ++ line ∷ [] }
with_event t End = record { nodes = t.nodes ++ node t.kind t.log ∷ []; kind = t.kind; log = [] }

-- what events tell one after another
abbrev pub told_by : Told → List CertEvent → Told
told_by t [] = t
told_by t (event ∷ events) = told_by (with_event t event) events

-- a certificate as far as it is read
pub record Reading : Type 0 where
  pub spot : Spot
  pub told : Told

abbrev pub first_reading : Reading
first_reading = record { spot = first_spot; told = nothing_told }

abbrev pub with_said : Told → Said → Result Reading (⊤)
with_said t None = Err tt
with_said t (Some e) = Ok (record { spot = e.1; told = with_event t e.0 })

abbrev pub with_cert_line : Reading → List (List ℕ) → Result Reading (⊤)
with_cert_line r words = with_said r.told (said r.spot words)

-- the nodes of a reading to which no line comes any more, so many lines having been read
abbrev pub read_whole : ℕ → Reading → Result (List Node) ℕ
read_whole lines r = if is_whole r.spot then Ok r.told.nodes else Err (suc lines)

abbrev pub certificate_in : ℕ → Result Reading (ℕ × ⊤) → Result (List Node) ℕ
certificate_in lines (Err fault) = Err fault.0
certificate_in lines (Ok r) = read_whole lines r

-- the nodes of a certificate, or the number of the first bad line, counted from 1. Where the tree isn't whole at the
-- end it is the number after the last line's
abbrev pub certificate_of : List ℕ → Result (List Node) ℕ
certificate_of text = certificate_in (length (word_lines text)) (read_lines with_cert_line 1 first_reading (word_lines text))
