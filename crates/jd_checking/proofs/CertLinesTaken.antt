-- A certificate's lines, one line more, and none.
use Rattle.std.proofs.Common.{◌≡◌, ℕ, suc, ◌+◌, ◌<◌, ◌^◌, Bool, true, false, if◌then◌else◌, List, [], ◌∷◌, ◌++◌, length, Option, Some, None, refl, sym, ap, ◌∙◌, subst, arith, append-nil, length-append, add-one}
use Rattle.std.specs.Prelude.{Result, Ok, Err, ⊤}
use Rattle.jd_text.specs.Readings.{read_lines}
use Rattle.jd_model.specs.Problems.{Problem}
use Rattle.jd_trees.specs.declared.CertEvent.{CertEvent}
use Rattle.jd_trees.specs.declared.CertEvent.TheVariants.{Nothing}
use Rattle.jd_trees.specs.Trees.{Tree, preorder}
use Rattle.jd_trees.specs.CertLines.{Said, first_spot, said, is_whole}
use Rattle.jd_trees.specs.CertTexts.{Told, Reading, nothing_told, told_by, with_said, with_cert_line, first_reading, certificate_in, read_whole}
use Rattle.jd_trees.specs.Events.{counted, events_of, events_after, IsTreeSoFar}
use Rattle.jd_trees.proofs.Events.{events-are-trees}
use Rattle.jd_cert.specs.declared.faults.CertFault.{CertFault}
use Rattle.jd_cert.specs.declared.faults.CertFault.TheVariants.{Syntax, NoMemory}
use Rattle.jd_cert.specs.Readers.{Reader, Takes, Refuses, IsFirstFault, new_reader}
use Rattle.jd_check.specs.declared.checked.Checked.{Checked}
use Rattle.jd_check.specs.Events.{BeginsTree, IsShort}
use Rattle.jd_check.specs.Runs.{IsChecked}
use Rattle.jd_check.proofs.Events.{open_lines-most}
use Rattle.jd_checking.specs.CertChecks.{HasTaken, IsLineFault, IsCertCheckOf, certificate_in_lines}
use Rattle.jd_checking.proofs.Told.{nodes-told, lines-told, event-more, events-few}

module _ (IsCheckAfter : List CertEvent → Type 0) (lines : List (List (List ℕ))) (reader : Reader) (so : HasTaken IsCheckAfter lines reader) where
  -- what is read where more lines follow
  read-further : (rest : List (List (List ℕ))) → read_lines with_cert_line 1 first_reading (lines ++ rest)
      ≡ read_lines with_cert_line (1 + length lines) (record { spot = reader.spot; told = told_by nothing_told so.events }) rest
  read-further rest = lines-told lines rest 1 first_spot reader.spot nothing_told so.events so.told

  read-all : certificate_in_lines lines ≡ read_whole (length lines) (record { spot = reader.spot; told = told_by nothing_told so.events })
  read-all =
      ap (λ ls. certificate_in (length lines) (read_lines with_cert_line 1 first_reading ls)) (sym (append-nil lines))
      ∙ ap (certificate_in (length lines)) (read-further [])

  module _ (words : List (List ℕ)) (event : CertEvent) (new : Reader) (takes : Takes reader words event new) where
    told-more : events_after first_spot (lines ++ words ∷ []) ≡ Some (so.events ++ counted event, new.spot)
    told-more = event-more lines words first_spot reader.spot new.spot so.events event so.told takes.said

    counted-more : new.lines ≡ length (lines ++ words ∷ [])
    counted-more = takes.counted ∙ ap suc so.counted ∙ sym (length-append lines (words ∷ []) ∙ add-one (length lines))

    has-taken : (IsNow : List CertEvent → Type 0) (events : List CertEvent) → so.events ++ counted event ≡ events → IsNow events → HasTaken IsNow (lines ++ words ∷ []) new
    has-taken IsNow events are checking = record {
      good = takes.good_still;
      counted = counted-more;
      events = events;
      told = told-more ∙ ap (λ es. Some (es, new.spot)) are;
      checking = checking;
    }

    -- a line that tells no event
    pub nothing-taken : event ≡ Nothing → HasTaken IsCheckAfter (lines ++ words ∷ []) new
    nothing-taken is = has-taken IsCheckAfter so.events (ap (λ e. so.events ++ counted e) is ∙ append-nil so.events) so.checking

    -- a line that tells one
    module _ (one : counted event ≡ event ∷ []) where
      pub begins-tree : BeginsTree (so.events ++ event ∷ [])
      begins-tree =
          let far : IsTreeSoFar (so.events ++ counted event) new.spot = events-are-trees (lines ++ words ∷ []) (so.events ++ counted event) new.spot told-more in
          (far.tree, (far.to_come, ap (λ e. (so.events ++ e) ++ far.to_come) (sym one) ∙ far.is))

      pub event-taken : (IsNow : List CertEvent → Type 0) → IsNow (so.events ++ event ∷ []) → HasTaken IsNow (lines ++ words ∷ []) new
      event-taken IsNow checking = has-taken IsNow (so.events ++ event ∷ []) (ap (λ e. so.events ++ e) one) checking

  pub is-short : reader.lines + 1 < 2 ^ 32 → IsShort so.events
  is-short h = let few = events-few first_spot reader.spot lines so.events so.told in omega (arith, few, open_lines-most so.events, so.counted, h)

  -- a line that is bad
  bad-line : (words : List (List ℕ)) (rest : List (List (List ℕ))) (number : ℕ) (t : Told) → said reader.spot words ≡ None
      → read_lines with_cert_line number (record { spot = reader.spot; told = t }) (words ∷ rest) ≡ Err (number, tt)
  bad-line words rest number t e = ap {B = Result Reading (ℕ × ⊤)} (λ (what : Said). elim (with_said t what) [ Err cause ↦ Err (number, cause) | Ok next ↦ read_lines with_cert_line (suc number) next rest ]) e

  pub line-fault : (words : List (List ℕ)) (fault : CertFault) (new : Reader) → Refuses reader words fault new → IsLineFault lines words fault
  line-fault words NoMemory new refuses = tt
  line-fault words (Syntax line) new refuses =
      let first = subst (λ (old : Option CertFault). IsFirstFault old (said reader.spot words) (suc reader.lines) (Syntax line)) so.good refuses.first in
      let number : line ≡ 1 + length lines = first.1 ∙ ap suc so.counted ∙ add-comm-one in (
        number ∙ one-more,
        λ rest.
            ap (certificate_in (length (lines ++ words ∷ rest))) (read-further (words ∷ rest) ∙ bad-line words rest (1 + length lines) (told_by nothing_told so.events) first.0)
            ∙ ap (λ n. Err n) (sym number),
      )
    where
      add-comm-one : suc (length lines) ≡ 1 + length lines
      add-comm-one = omega arith

      one-more : 1 + length lines ≡ length lines + 1
      one-more = omega arith

  -- no line follows, and the certificate is whole
  all-told : (tree : Tree) → so.events ≡ events_of (preorder tree) → (told_by nothing_told so.events).nodes ≡ preorder tree
  all-told tree are = ap (λ es. (told_by nothing_told es).nodes) are ∙ nodes-told nothing_told (preorder tree)

  pub cert-checked : (p : Problem) (answer : Checked) → is_whole reader.spot ≡ true → ((tree : Tree) → IsCheckAfter (events_of (preorder tree)) → IsChecked p tree answer) → IsCertCheckOf p lines answer
  cert-checked p answer h checked =
      let far : IsTreeSoFar so.events reader.spot = events-are-trees lines so.events reader.spot so.told in
      let are : so.events ≡ events_of (preorder far.tree) = sym (append-nil so.events) ∙ ap (λ es. so.events ++ es) (sym (far.whole h)) ∙ far.is in
      record {
        tree = far.tree;
        read = read-all ∙ ap (λ (b : Bool). if b then Ok (told_by nothing_told so.events).nodes else Err (suc (length lines))) h ∙ ap (λ ns. Ok ns) (all-told far.tree are);
        checked = checked far.tree (subst IsCheckAfter are so.checking);
      }

  -- or it isn't
  pub cert-unfinished : is_whole reader.spot ≡ false → certificate_in_lines lines ≡ Err (reader.lines + 1)
  cert-unfinished h =
      let number : suc (length lines) ≡ reader.lines + 1 = omega (arith, so.counted) in
      read-all ∙ ap (λ (b : Bool). if b then Ok (told_by nothing_told so.events).nodes else Err (suc (length lines))) h ∙ ap (λ n. Err n) number

-- no line was taken
pub nothing-yet : (IsCheckAfter : List CertEvent → Type 0) (reader : Reader) → reader ≡ new_reader → IsCheckAfter [] → HasTaken IsCheckAfter [] reader
nothing-yet IsCheckAfter reader is checking =
    subst (HasTaken IsCheckAfter []) (sym is) (record { good = refl; counted = refl; events = []; told = refl; checking = checking })
