-- A certificate that is written reads back.
use Rattle.std.proofs.Common.{◌≡◌, ℕ, suc, ◌-◌, ◌==◌, Bool, true, false, if◌then◌else◌, List, [], ◌∷◌, ◌++◌, map, length, Option, Some, None, refl, ap, sym, ◌∙◌, subst, arith, append_assoc, append-nil, codes}
use Rattle.std.specs.Prelude.{Ok, flat_map}
use Rattle.std.specs.Cmp.Derive.{both_true}
use Rattle.std.specs.List.{All, list_all}
use Rattle.std.proofs.lemmas.Bool.Decides.{nat_tests}
use Rattle.std.proofs.lemmas.List.Elements.{All-nil, All-cons, All-head, All-tail}
use Rattle.std.proofs.lemmas.List.Folds.{list_all-append}
use Rattle.jd_logic.specs.declared.Line.{Line}
use Rattle.jd_logic.specs.LratText.{line_of}
use Rattle.jd_text.specs.Words.{are_texts, word_lines}
use Rattle.jd_text.specs.Readings.{read_lines}
use Rattle.jd_text.proofs.WrittenLines.{is_proper, are_proper, read-good, word-lines-written}
use Rattle.jd_trees.specs.declared.Kind.{Kind}
use Rattle.jd_trees.specs.declared.Kind.TheVariants as kinds
use Rattle.jd_trees.specs.declared.Node.{Node}
use Rattle.jd_trees.specs.declared.Node.TheVariants as nodes
use Rattle.jd_trees.specs.declared.Spot.{Spot}
use Rattle.jd_trees.specs.declared.CertEvent.{CertEvent}
use Rattle.jd_trees.specs.declared.CertEvent.TheVariants.{Nothing, Fork, Leaf, Cut, Proof, End}
use Rattle.jd_logic.specs.Ranges.{IsLine, AreLines}
use Rattle.jd_trees.specs.Trees.{Tree, fork_of, node_of, node, preorder, IsNode, IsCert}
use Rattle.jd_trees.specs.CertLines.{Said, said, first_words, only, log_line}
use Rattle.jd_trees.specs.CertTexts.{Told, Reading, with_event, with_said, with_cert_line, first_reading, nothing_told, certificate_in, certificate_of}
use Rattle.jd_trees.specs.CertWriter.{proof_words, log_lines, node_lines, certificate_lines, certificate_text}
use Rattle.jd_trees.proofs.Lines.{line-back, not-end, proof-proper}

-- lines take one reading to another, whatever follows
abbrev Goes : Reading → List (List (List ℕ)) → Reading → Type 0
Goes r lines next = (number : ℕ) (rest : List (List (List ℕ))) → (more : ℕ) × (read_lines with_cert_line number r (lines ++ rest) ≡ read_lines with_cert_line more next rest)

goes-none : (r : Reading) → Goes r [] r
goes-none r number rest = (number, refl)

goes-on : (one two three : Reading) (lines more : List (List (List ℕ))) → Goes one lines two → Goes two more three → Goes one (lines ++ more) three
goes-on one two three lines more g h number rest =
    let first = g number (more ++ rest) in
    let second = h first.0 rest in
    (second.0, ap (read_lines with_cert_line number one) (append_assoc lines more rest) ∙ first.1 ∙ second.1)

goes-line : (spot next : Spot) (told : Told) (event : CertEvent) (words : List (List ℕ)) → said spot words ≡ Some (event, next)
    → Goes (record { spot = spot; told = told }) (words ∷ []) (record { spot = next; told = with_event told event })
goes-line spot next told event words is number rest =
    (suc number, read-good with_cert_line number (record { spot = spot; told = told }) (record { spot = next; told = with_event told event }) words rest (ap (with_said told) is))

-- where a tree is due, and where a leaf or cut is open
abbrev at_tree : ℕ → Spot
at_tree due = record { begun = true; due = due; inside = false }

abbrev in_log : ℕ → Spot
in_log due = record { begun = true; due = due; inside = true }

-- ---- the lines of a leaf or cut

said-proof : (due : ℕ) (line : Line) → IsLine line → said (in_log due) (proof_words line) ≡ Some (Proof line, in_log due)
said-proof due line is = spoken line ∙ by (are_texts (only (codes "end")) (proof_words line)) (not-end line) (line_of (proof_words line)) (line-back line is)
  where
    spoken : (line : Line) → said (in_log due) (proof_words line) ≡ log_line (in_log due) (proof_words line)
    spoken line = grind arith

    by : (b : Bool) → b ≡ false → (o : Option Line) → o ≡ Some line
        → ◌≡◌ {A = Said} (if b then Some (End, record (in_log due) { due = due - 1; inside = false }) else elim o [ None ↦ None | Some line ↦ Some (Proof line, in_log due) ]) (Some (Proof line, in_log due))
    by true e o is = cc
    by false e o is = rw is refl

abbrev told_of : List Node → Kind → List Line → Told
told_of nodes kind log = record { nodes = nodes; kind = kind; log = log }

goes-log : (due : ℕ) (nodes : List Node) (kind : Kind) (log lines : List Line) → AreLines lines
    → Goes (record { spot = in_log due; told = told_of nodes kind log }) (map proof_words lines) (record { spot = in_log due; told = told_of nodes kind (log ++ lines) })
goes-log due nodes kind log [] is =
    subst (λ l. Goes (record { spot = in_log due; told = told_of nodes kind log }) [] (record { spot = in_log due; told = told_of nodes kind l })) (sym (append-nil log)) (goes-none _)
goes-log due nodes kind log (line ∷ lines) is =
    let first = goes-line (in_log due) (in_log due) (told_of nodes kind log) (Proof line) (proof_words line) (said-proof due line (All-head IsLine line lines is)) in
    let second = goes-log due nodes kind (log ++ line ∷ []) lines (All-tail IsLine line lines is) in
    subst (λ l. Goes (record { spot = in_log due; told = told_of nodes kind log }) (proof_words line ∷ map proof_words lines) (record { spot = in_log due; told = told_of nodes kind l }))
    (append_assoc log (line ∷ []) lines)
    (goes-on (record { spot = in_log due; told = told_of nodes kind log }) (record { spot = in_log due; told = told_of nodes kind (log ++ line ∷ []) })
    (record { spot = in_log due; told = told_of nodes kind ((log ++ line ∷ []) ++ lines) }) (proof_words line ∷ []) (map proof_words lines) first second)

abbrev kind_words : Kind → List (List ℕ)
kind_words kinds.Whole = only (codes "leaf")
kind_words kinds.Cut = only (codes "cut")

-- a line that is taken where a tree is due
some-due : (due : ℕ) (what : Said) → ◌≡◌ {A = Said} (if suc due == 0 then None else what) what
some-due due what = let some : (suc due == 0) ≡ false = grind (arith, nat_tests) in ap (λ b. if b then None else what) some

goes-kind : (due : ℕ) (told : Told) (kind : Kind)
    → Goes (record { spot = at_tree (suc due); told = told }) (kind_words kind ∷ []) (record { spot = in_log (suc due); told = told_of told.nodes kind [] })
goes-kind due told kinds.Whole = goes-line (at_tree (suc due)) (in_log (suc due)) told Leaf (only (codes "leaf")) (some-due due (Some (Leaf, in_log (suc due))))
goes-kind due told kinds.Cut = goes-line (at_tree (suc due)) (in_log (suc due)) told Cut (only (codes "cut")) (some-due due (Some (Cut, in_log (suc due))))

goes-end : (due : ℕ) (nodes : List Node) (kind : Kind) (log : List Line)
    → Goes (record { spot = in_log (suc due); told = told_of nodes kind log }) (only (codes "end") ∷ []) (record { spot = at_tree due; told = told_of (nodes ++ node kind log ∷ []) kind [] })
goes-end due nodes kind log = goes-line (in_log (suc due)) (at_tree due) (told_of nodes kind log) End (only (codes "end")) (let less : suc due - 1 ≡ due = omega arith in ap (λ n. Some (End, at_tree n)) less)

node-lines-are : (kind : Kind) (log : List Line) → node_lines (node kind log) ≡ (kind_words kind ∷ []) ++ (map proof_words log ++ only (codes "end") ∷ [])
node-lines-are kinds.Whole log = refl
node-lines-are kinds.Cut log = refl

goes-node : (due : ℕ) (told : Told) (kind : Kind) (log : List Line) → AreLines log
    → Goes (record { spot = at_tree (suc due); told = told }) (node_lines (node kind log)) (record { spot = at_tree due; told = told_of (told.nodes ++ node kind log ∷ []) kind [] })
goes-node due told kind log is =
    let here : Reading = record { spot = at_tree (suc due); told = told } in
    let begun : Reading = record { spot = in_log (suc due); told = told_of told.nodes kind [] } in
    let full : Reading = record { spot = in_log (suc due); told = told_of told.nodes kind log } in
    let after : Reading = record { spot = at_tree due; told = told_of (told.nodes ++ node kind log ∷ []) kind [] } in
    subst (λ lines. Goes here lines after) (sym (node-lines-are kind log))
    (goes-on here begun after (kind_words kind ∷ []) (map proof_words log ++ only (codes "end") ∷ []) (goes-kind due told kind)
    (goes-on begun full after (map proof_words log) (only (codes "end") ∷ []) (goes-log (suc due) told.nodes kind [] log is) (goes-end due told.nodes kind log)))

-- ---- trees

-- lines take a reading on past these nodes, and one tree less is due
record GoesPast (due : ℕ) (told : Told) (lines : List (List (List ℕ))) (passed : List Node) : Type 0 where
  pub after : Told
  pub nodes_are : after.nodes ≡ told.nodes ++ passed
  pub goes : Goes (record { spot = at_tree (suc due); told = told }) lines (record { spot = at_tree due; told = after })

flat_map-append : (one other : List Node) → flat_map node_lines (one ++ other) ≡ flat_map node_lines one ++ flat_map node_lines other
flat_map-append [] other = refl
flat_map-append (n ∷ one) other = ap (λ lines. node_lines n ++ lines) (flat_map-append one other) ∙ sym (append_assoc (node_lines n) (flat_map node_lines one) (flat_map node_lines other))

node-lines-of : (kind : Kind) (log : List Line) → IsNode (node kind log) → AreLines log
node-lines-of kinds.Whole log is = is
node-lines-of kinds.Cut log is = is

All-left : (xs ys : List Node) → All IsNode (xs ++ ys) → All IsNode xs
All-left [] ys a = All-nil IsNode
All-left (x ∷ xs) ys a = All-cons IsNode x xs (All-head IsNode x (xs ++ ys) a) (All-left xs ys (All-tail IsNode x (xs ++ ys) a))

All-right : (xs ys : List Node) → All IsNode (xs ++ ys) → All IsNode ys
All-right [] ys a = a
All-right (x ∷ xs) ys a = All-right xs ys (All-tail IsNode x (xs ++ ys) a)

goes-tree : (due : ℕ) (told : Told) (tree : Tree) → All IsNode (preorder tree) → GoesPast due told (flat_map node_lines (preorder tree)) (preorder tree)
goes-tree due told (node_of kind log) is = record {
  after = told_of (told.nodes ++ node kind log ∷ []) kind [];
  nodes_are = refl;
  goes = subst (λ lines. Goes (record { spot = at_tree (suc due); told = told }) lines (record { spot = at_tree due; told = told_of (told.nodes ++ node kind log ∷ []) kind [] }))
      (sym (append-nil (node_lines (node kind log)))) (goes-node due told kind log (node-lines-of kind log (All-head IsNode (node kind log) [] is)));
}
goes-tree due told (fork_of at_no at_yes) is =
    let rest : All IsNode (preorder at_no ++ preorder at_yes) = All-tail IsNode nodes.Fork (preorder at_no ++ preorder at_yes) is in
    let forked : Told = with_event told Fork in
    let first : GoesPast (suc due) forked (flat_map node_lines (preorder at_no)) (preorder at_no) = goes-tree (suc due) forked at_no (All-left (preorder at_no) (preorder at_yes) rest) in
    let second : GoesPast due first.after (flat_map node_lines (preorder at_yes)) (preorder at_yes) = goes-tree due first.after at_yes (All-right (preorder at_no) (preorder at_yes) rest) in
    let here : Reading = record { spot = at_tree (suc due); told = told } in
    let two : Reading = record { spot = at_tree (suc (suc due)); told = forked } in
    let one : Reading = record { spot = at_tree (suc due); told = first.after } in
    let none : Reading = record { spot = at_tree due; told = second.after } in
    let both : Goes two (flat_map node_lines (preorder at_no) ++ flat_map node_lines (preorder at_yes)) none
    = goes-on two one none (flat_map node_lines (preorder at_no)) (flat_map node_lines (preorder at_yes)) first.goes second.goes in
    let all : Goes two (flat_map node_lines (preorder at_no ++ preorder at_yes)) none
    = subst (λ lines. Goes two lines none) (sym (flat_map-append (preorder at_no) (preorder at_yes))) both in
    record {
      after = second.after;
      nodes_are = second.nodes_are ∙ ap (λ ns. ns ++ preorder at_yes) first.nodes_are
          ∙ append_assoc (told.nodes ++ nodes.Fork ∷ []) (preorder at_no) (preorder at_yes)
          ∙ append_assoc told.nodes (nodes.Fork ∷ []) (preorder at_no ++ preorder at_yes);
      goes = goes-on here two none (only (codes "fork") ∷ []) (flat_map node_lines (preorder at_no ++ preorder at_yes))
          (goes-line (at_tree (suc due)) (at_tree (suc (suc due))) told Fork (only (codes "fork")) (some-due due (Some (Fork, at_tree (suc (suc due)))))) all;
    }

-- ---- words

proofs-proper : (log : List Line) → AreLines log → are_proper (map proof_words log) ≡ true
proofs-proper [] is = refl
proofs-proper (line ∷ log) is = both_true (proof-proper line (All-head IsLine line log is)) (proofs-proper log (All-tail IsLine line log is))

log-proper : (log : List Line) → AreLines log → are_proper (log_lines log) ≡ true
log-proper log is = list_all-append (list_all is_proper) (map proof_words log) (only (codes "end") ∷ []) ∙ both_true (proofs-proper log is) refl

node-proper : (n : Node) → IsNode n → are_proper (node_lines n) ≡ true
node-proper nodes.Fork is = refl
node-proper (nodes.Leaf log) is = log-proper log is
node-proper (nodes.Cut log) is = log-proper log is

nodes-proper : (ns : List Node) → All IsNode ns → are_proper (flat_map node_lines ns) ≡ true
nodes-proper [] is = refl
nodes-proper (n ∷ ns) is =
    list_all-append (list_all is_proper) (node_lines n) (flat_map node_lines ns)
    ∙ both_true (node-proper n (All-head IsNode n ns is)) (nodes-proper ns (All-tail IsNode n ns is))

-- ---- certificates

tree-back : (tree : Tree) → All IsNode (preorder tree) → certificate_of (certificate_text (preorder tree)) ≡ Ok (preorder tree)
tree-back tree is =
    let lines : List (List (List ℕ)) = certificate_lines (preorder tree) in
    let past : GoesPast 0 nothing_told (flat_map node_lines (preorder tree)) (preorder tree) = goes-tree 0 nothing_told tree is in
    let start : Reading = record { spot = at_tree 1; told = nothing_told } in
    let end : Reading = record { spot = at_tree 0; told = past.after } in
    let all : Goes first_reading lines end = goes-on first_reading start end (first_words ∷ []) (flat_map node_lines (preorder tree))
    (goes-line first_reading.spot (at_tree 1) nothing_told Nothing first_words refl) past.goes in
    let whole = all 1 [] in
    let read : read_lines with_cert_line 1 first_reading lines ≡ Ok end = ap (read_lines with_cert_line 1 first_reading) (sym (append-nil lines)) ∙ whole.1 in
    let words : word_lines (certificate_text (preorder tree)) ≡ lines = word-lines-written lines (nodes-proper (preorder tree) is) in
    ap (λ ls. certificate_in (length ls) (read_lines with_cert_line 1 first_reading ls)) words
    ∙ ap (certificate_in (length lines)) read
    ∙ ap (λ ns. Ok ns) past.nodes_are

pub certificate-back : (ns : List Node) → IsCert ns → certificate_of (certificate_text ns) ≡ Ok ns
certificate-back ns is =
    subst (λ ns. certificate_of (certificate_text ns) ≡ Ok ns) is.nodes_of_tree
    (tree-back is.tree (subst (All IsNode) (sym is.nodes_of_tree) is.ranges))
