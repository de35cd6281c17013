-- What is read so far begins the list of a tree's nodes, with all numbers in their ranges.
use Rattle.std.proofs.Common.{◌≡◌, ℕ, zero, suc, ◌-◌, ◌<◌, ◌==◌, Bool, true, false, not, ◌&&◌, if◌then◌else◌, List, [], ◌∷◌, ◌++◌, length, Option, Some, None, refl, sym, ap, ◌∙◌, subst, arith, append_assoc, append-nil, codes, drop}
use Rattle.std.specs.Prelude.{Result, Ok, Err, ⊤}
use Rattle.std.specs.List.{All}
use Rattle.std.proofs.lemmas.Bool.Decides.{nat_tests}
use Rattle.std.proofs.lemmas.List.Elements.{All-nil, All-push}
use Rattle.jd_logic.specs.declared.Line.{Line}
use Rattle.jd_logic.specs.LratText.{line_of}
use Rattle.jd_text.specs.Words.{are_texts, word_lines}
use Rattle.jd_text.specs.Readings.{read_lines}
use Rattle.jd_trees.specs.declared.Kind.{Kind}
use Rattle.jd_trees.specs.declared.Kind.TheVariants as kinds
use Rattle.jd_trees.specs.declared.Node.{Node}
use Rattle.jd_trees.specs.declared.Node.TheVariants as nodes
use Rattle.jd_trees.specs.declared.Spot.{Spot}
use Rattle.jd_trees.specs.declared.CertEvent.{CertEvent}
use Rattle.jd_trees.specs.declared.CertEvent.TheVariants.{Nothing, Fork, Leaf, Cut, Proof, End}
use Rattle.jd_logic.specs.Ranges.{IsLine, AreLines}
use Rattle.jd_trees.specs.Trees.{Tree, fork_of, node_of, node, preorder, IsNode, IsCert}
use Rattle.jd_trees.specs.CertLines.{Said, said, first_words, only, first_line, tree_line, log_line, begun_line, is_whole}
use Rattle.jd_trees.specs.CertTexts.{Told, Reading, with_event, with_said, with_cert_line, first_reading, certificate_in, certificate_of}
use Rattle.jd_logic.proofs.LineRanges.{line-ranges}

-- the nodes of one tree after another
abbrev pub preorders : List Tree → List Node
preorders [] = []
preorders (tree ∷ trees) = preorder tree ++ preorders trees

pub record IsTreeOf (nodes : List Node) : Type 0 where
  pub tree : Tree
  pub is : preorder tree ≡ nodes

-- whatever trees come, as many as are due, the nodes with theirs are those of one tree
abbrev pub Grows : List Node → ℕ → Type 0
Grows told due = (trees : List Tree) → length trees ≡ due → IsTreeOf (told ++ preorders trees)

pub record IsRight (told : Told) (spot : Spot) : Type 0 where
  pub grows : Grows told.nodes spot.due
  pub due : spot.inside ≡ true → 0 < spot.due
  pub ranges : All IsNode told.nodes
  pub log : AreLines told.log

abbrev pub Stays : Told → Said → Type 0
Stays told what = (p : CertEvent × Spot) → what ≡ Some p → IsRight (with_event told p.0) p.1

some-some : {A : Type 0} (x y : A) → Some x ≡ Some y → x ≡ y
some-some x y e = cc

bad : (told : Told) → Stays told None
bad told p e = cc

good : (told : Told) (event : CertEvent) (spot : Spot) → IsRight (with_event told event) spot → Stays told (Some (event, spot))
good told event spot is p e =
    let P : CertEvent × Spot → Type 0 = λ q. IsRight (with_event told q.0) q.1 in
    subst P (some-some (event, spot) p e) is

either : (told : Told) (b : Bool) (one other : Said) → (b ≡ true → Stays told one) → (b ≡ false → Stays told other) → Stays told (if b then one else other)
either told true one other h k = h refl
either told false one other h k = k refl

-- ---- one event

one-less : (n : ℕ) → 0 < n → suc (n - 1) ≡ n
one-less n h = omega (arith, h)

grows-fork : (told : List Node) (due : ℕ) → 0 < due → Grows told due → Grows (told ++ nodes.Fork ∷ []) (suc due)
grows-fork told due some grows [] e = absurd (omega (arith, e, some))
grows-fork told due some grows (one ∷ []) e = absurd (omega (arith, e, some))
grows-fork told due some grows (one ∷ other ∷ trees) e =
    let old : IsTreeOf (told ++ ((nodes.Fork ∷ (preorder one ++ preorder other)) ++ preorders trees)) = grows (fork_of one other ∷ trees) (omega (arith, e)) in
    record {
      tree = old.tree;
      is = old.is
          ∙ ap (λ rest. told ++ nodes.Fork ∷ rest) (append_assoc (preorder one) (preorder other) (preorders trees))
          ∙ sym (append_assoc told (nodes.Fork ∷ []) (preorder one ++ (preorder other ++ preorders trees)));
    }

grows-node : (told : List Node) (due : ℕ) (kind : Kind) (log : List Line) → 0 < due → Grows told due → Grows (told ++ node kind log ∷ []) (due - 1)
grows-node told due kind log some grows trees e =
    let old : IsTreeOf (told ++ ((node kind log ∷ []) ++ preorders trees)) = grows (node_of kind log ∷ trees) (omega (arith, e, some)) in
    record { tree = old.tree; is = old.is ∙ sym (append_assoc told (node kind log ∷ []) (preorders trees)) }

node-ranges : (kind : Kind) (log : List Line) → AreLines log → IsNode (node kind log)
node-ranges kinds.Whole log h = h
node-ranges kinds.Cut log h = h

positive : (n : ℕ) → (n == 0) ≡ false → 0 < n
positive zero h = cc
positive (suc n) h = omega arith

-- ---- one line

module _ (told : Told) (spot : Spot) (is : IsRight told spot) where
  first-stays : (words : List (List ℕ)) → Stays told (first_line spot words)
  first-stays words = either told (are_texts first_words words) _ _
      (λ h. good told Nothing (record spot { begun = true }) (record { grows = is.grows; due = is.due; ranges = is.ranges; log = is.log }))
      (λ h. bad told)

  tree-stays : (words : List (List ℕ)) → Stays told (tree_line spot words)
  tree-stays words = either told (spot.due == 0) _ _ (λ h. bad told)
      (λ some. either told (are_texts (only (codes "fork")) words) _ _
      (λ h. good told Fork (record spot { due = suc spot.due }) (record {
        grows = grows-fork told.nodes spot.due (positive spot.due some) is.grows;
        due = λ h. omega arith;
        ranges = All-push IsNode _ _ is.ranges tt;
        log = is.log;
      }))
      (λ h. either told (are_texts (only (codes "leaf")) words) _ _
      (λ h. good told Leaf (record spot { inside = true }) (record { grows = is.grows; due = λ h. positive spot.due some; ranges = is.ranges; log = All-nil IsLine }))
      (λ h. either told (are_texts (only (codes "cut")) words) _ _
      (λ h. good told Cut (record spot { inside = true }) (record { grows = is.grows; due = λ h. positive spot.due some; ranges = is.ranges; log = All-nil IsLine }))
      (λ h. bad told))))

  proof-stays : (line : Option Line) → ((l : Line) → line ≡ Some l → IsLine l) → Stays told (elim line [ None ↦ None | Some line ↦ Some (Proof line, spot) ])
  proof-stays None h = bad told
  proof-stays (Some l) h = good told (Proof l) spot (record { grows = is.grows; due = is.due; ranges = is.ranges; log = All-push IsLine _ _ is.log (h l refl) })

  log-stays : (words : List (List ℕ)) → 0 < spot.due → Stays told (log_line spot words)
  log-stays words some = either told (are_texts (only (codes "end")) words) _ _
      (λ h. good told End (record spot { due = spot.due - 1; inside = false }) (record {
        grows = grows-node told.nodes spot.due told.kind told.log some is.grows;
        due = λ h. cc;
        ranges = All-push IsNode _ _ is.ranges (node-ranges told.kind told.log is.log);
        log = All-nil IsLine;
      }))
      (λ h. proof-stays (line_of words) (line-ranges words))

  begun-stays : (words : List (List ℕ)) → Stays told (begun_line spot words)
  begun-stays words = either told spot.inside _ _ (λ h. log-stays words (is.due h)) (λ h. tree-stays words)

  pub said-stays : (words : List (List ℕ)) → Stays told (said spot words)
  said-stays [] = good told Nothing spot is
  said-stays (word ∷ words) = either told spot.begun _ _ (λ h. begun-stays (word ∷ words)) (λ h. first-stays (word ∷ words))

-- ---- all lines

abbrev pub Right : Reading → Type 0
Right r = IsRight r.told r.spot

pub first-right : Right first_reading
first-right = record { grows = first-grows; due = λ h. cc; ranges = All-nil IsNode; log = All-nil IsLine }
  where
    first-grows : Grows [] 1
    first-grows [] e = absurd (omega (arith, e))
    first-grows (tree ∷ []) e = record { tree = tree; is = sym (append-nil (preorder tree)) }
    first-grows (tree ∷ other ∷ trees) e = absurd (omega (arith, e))

err-ok : {A B : Type 0} (b : B) (a : A) → Err b ≡ Ok a → ⊥
err-ok b a e = cc

ok-ok : {A B : Type 0} (a b : A) → ◌≡◌ {A = Result A B} (Ok a) (Ok b) → a ≡ b
ok-ok a b e = cc

lines-right : (number : ℕ) (r end : Reading) (lines : List (List (List ℕ))) → Right r → read_lines with_cert_line number r lines ≡ Ok end → Right end
lines-right number r end [] is e = subst Right (ok-ok r end e) is
lines-right number r end (words ∷ lines) is e = by (said r.spot words) (said-stays r.told r.spot is words) (λ next. lines-right (suc number) next end lines) e
  where
    by : (what : Said) → Stays r.told what → ((next : Reading) → Right next → read_lines with_cert_line (suc number) next lines ≡ Ok end → Right end) → ◌≡◌ {A = Result Reading (ℕ × ⊤)} (elim (with_said r.told what) [ Err cause ↦ Err (number, cause) | Ok next ↦ read_lines with_cert_line (suc number) next lines ]) (Ok end) → Right end
    by None stays on e = absurd (err-ok (number, tt) end e)
    by (Some p) stays on e = on (record { spot = p.1; told = with_event r.told p.0 }) (stays p refl) e

both : (a b : Bool) → (a && b) ≡ true → (a ≡ true) × (b ≡ true)
both true b h = (refl, h)
both false b h = cc

-- a reading that is whole is a certificate
pub whole-right : (r : Reading) → Right r → is_whole r.spot ≡ true → IsCert r.told.nodes
whole-right r is h =
    let due : (r.spot.due == 0) ≡ true = (both r.spot.begun (r.spot.due == 0) (both (r.spot.begun && (r.spot.due == 0)) (not r.spot.inside) h).0).1 in
    let one : IsTreeOf (r.told.nodes ++ []) = is.grows [] (none r.spot.due due) in
    record { tree = one.tree; nodes_of_tree = one.is ∙ append-nil r.told.nodes; ranges = is.ranges }
  where
    none : (n : ℕ) → (n == 0) ≡ true → 0 ≡ n
    none zero h = refl
    none (suc n) h = absurd (grind (arith, nat_tests, h))

pub read-right : (end : Reading) (lines : List (List (List ℕ))) → read_lines with_cert_line 1 first_reading lines ≡ Ok end → Right end
read-right end lines e = lines-right 1 first_reading end lines first-right e

pub certificates-are-trees : (text : List ℕ) (told : List Node) → certificate_of text ≡ Ok told → IsCert told
certificates-are-trees text told e = by (read_lines with_cert_line 1 first_reading (word_lines text)) refl e
  where
    whole : (r : Reading) (b : Bool) → is_whole r.spot ≡ b → Right r → ◌≡◌ {A = Result (List Node) ℕ} (if b then Ok r.told.nodes else Err (suc (length (word_lines text)))) (Ok told) → IsCert told
    whole r true h is e = subst IsCert (ok-ok r.told.nodes told e) (whole-right r is h)
    whole r false h is e = absurd (err-ok (suc (length (word_lines text))) told e)

    by : (what : Result Reading (ℕ × ⊤)) → read_lines with_cert_line 1 first_reading (word_lines text) ≡ what → certificate_in (length (word_lines text)) what ≡ Ok told → IsCert told
    by (Err fault) at e = absurd (err-ok fault.0 told e)
    by (Ok r) at e = whole r (is_whole r.spot) refl (read-right r (word_lines text) at) e
