use Rattle.std.proofs.Common.{◌≡◌, ◌+◌, length, map, sym, ap, ◌∙◌, subst, arith}
use Rattle.std.specs.Prelude.{All}
use Rattle.jd_circuit.specs.Net.{IsLit}
use Rattle.jd_books.specs.Leaves.{IsLeaf}
use Rattle.jd_leaves.specs.Views.{leaf_of}
use Rattle.jd_cones.specs.Cones.{IsConeOf}
use Rattle.jd_cones.specs.Renaming.{renamed}
use Rattle.jd_cones.proofs.Kept.{guards-of, last-of, leaf-kept, cone-kept, renaming-of, made-of}
use Rattle.jd_cones.proofs.cones.cone.Goals as goal

pub renamed_literals-requires : goal.renamed_literals-requires
renamed_literals-requires c =
    let leaf = c.args.leaf in
    let l = leaf_of leaf in
    let kept = c.in_ok-renumbering.renumbering in
    let r = renaming-of l c.as_slice.result.now c.in_ok-marks.marks.items c.as_slice-2.result.now kept.numbers.items kept.gates.items c.as_slice.ensures c.as_slice-2.ensures.value c.in_ok-renumbering.ensures in
    let n = l.inputs + length l.gates in
    let many : length c.as_slice-numbers.result.now ≡ n = ap length c.as_slice-numbers.ensures.value ∙ r.all in
    subst (λ k. All (IsLit k) c.as_slice-3.result.now) (sym many) (subst (All (IsLit n)) (sym c.as_slice-3.ensures) (guards-of n l.guards l.diff leaf.literals))

pub renamed-diff-requires : goal.renamed-diff-requires
renamed-diff-requires c =
    let leaf = c.args.leaf in
    let l = leaf_of leaf in
    let kept = c.in_ok-renumbering.renumbering in
    let r = renaming-of l c.as_slice.result.now c.in_ok-marks.marks.items c.as_slice-2.result.now kept.numbers.items kept.gates.items c.as_slice.ensures c.as_slice-2.ensures.value c.in_ok-renumbering.ensures in
    let n = l.inputs + length l.gates in
    let many : length c.as_slice-numbers.result.now ≡ n = ap length c.as_slice-numbers.ensures.value ∙ r.all in
    subst (λ k. IsLit k l.diff) (sym many) (last-of n l.guards l.diff leaf.literals)

pub invariant_of-result : goal.invariant_of-result
invariant_of-result c =
    let leaf = c.args.leaf in
    let l = leaf_of leaf in
    let kept = c.in_ok-renumbering.renumbering in
    let numbers = kept.numbers.items in
    let r = renaming-of l c.as_slice.result.now c.in_ok-marks.marks.items c.as_slice-2.result.now numbers kept.gates.items c.as_slice.ensures c.as_slice-2.ensures.value c.in_ok-renumbering.ensures in
    let guards : c.new-2.result ≡ map (renamed numbers) l.guards =
    c.new-2.ensures ∙ c.in_ok-guards.ensures ∙ ap (λ ns. map (renamed ns) c.as_slice-3.result.now) c.as_slice-numbers.ensures.value ∙ ap (map (renamed numbers)) c.as_slice-3.ensures in
    let diff : c.renamed-diff.result ≡ renamed numbers l.diff = c.renamed-diff.ensures ∙ ap (λ ns. renamed ns l.diff) c.as_slice-numbers.ensures.value in
    let k = subst IsLeaf (sym (made-of l numbers kept.gates.items c.new.result c.new-2.result c.renamed-diff.result c.new.ensures guards diff))
    (leaf-kept l c.in_ok-marks.marks.items numbers kept.gates.items (record { gates = leaf.wired; literals = leaf.literals }) c.in_ok-marks.ensures r) in
    record {
      few = omega (arith, leaf.few, r.fewer, ap length c.new.ensures);
      wired = k.gates;
      literals = k.literals;
    }

pub returns : goal.returns
returns c =
    let leaf = c.args.leaf in
    let l = leaf_of leaf in
    let kept = c.in_ok-renumbering.renumbering in
    let numbers = kept.numbers.items in
    let r = renaming-of l c.as_slice.result.now c.in_ok-marks.marks.items c.as_slice-2.result.now numbers kept.gates.items c.as_slice.ensures c.as_slice-2.ensures.value c.in_ok-renumbering.ensures in
    let guards : c.new-2.result ≡ map (renamed numbers) l.guards =
    c.new-2.ensures ∙ c.in_ok-guards.ensures ∙ ap (λ ns. map (renamed ns) c.as_slice-3.result.now) c.as_slice-numbers.ensures.value ∙ ap (map (renamed numbers)) c.as_slice-3.ensures in
    let diff : c.renamed-diff.result ≡ renamed numbers l.diff = c.renamed-diff.ensures ∙ ap (λ ns. renamed ns l.diff) c.as_slice-numbers.ensures.value in
    subst (IsConeOf l) (sym (made-of l numbers kept.gates.items c.new.result c.new-2.result c.renamed-diff.result c.new.ensures guards diff))
    (cone-kept l c.in_ok-marks.marks.items numbers kept.gates.items (record { gates = leaf.wired; literals = leaf.literals }) c.in_ok-marks.ensures r)
