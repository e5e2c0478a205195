-- A journal's text that is written in pieces.
use Rattle.std.proofs.Common.{◌≡◌, ◌+◌, ℕ, List, [], ◌++◌, take, drop, Option, Some, Result, Ok, Err, sym, ap, subst, ◌∙◌, append_assoc, take-append-drop}
use Rattle.std.specs.Prelude.{slice_get, OnOk, OnErr}
use Rattle.std.specs.Io.KnownBytes.{Appends}
use Rattle.std.proofs.KnownBytes.{Appends-nil, Appends-trans}
use Rattle.std.proofs.lemmas.List.{append-nil}
use Rattle.std.proofs.lemmas.Grind.{flat_map-append}
use Rattle.orc_rules.specs.declared.entry.Entry.{Entry}
use Rattle.orc_rules.specs.Text.{line}
use Rattle.orc_journal.specs.Written.{Written}
use Rattle.orc_journal_text.specs.Texts.{header, entry_lines, journal_text}
use Rattle.orc_journal_text.proofs.Composing.{lines_more}
use Rattle.orc_output.specs.Output.{AppendsPrefix}

-- what holds without a fault, and at one
pub on_ok : {X Y A B : Type 0} (r : Result X Y) → (A → B) → OnOk r A → OnOk r B
on_ok (Ok x) f h = f h
on_ok (Err e) f h = h

pub on_err : {X Y A B : Type 0} (r : Result X Y) → (A → B) → OnErr r A → OnErr r B
on_err (Ok x) f h = h
on_err (Err e) f h = f h

module _ (names : List (List ℕ)) (j : Written) (old : Option (List ℕ)) where
  -- the lines of the entries so far are written, but for a piece that is held
  pub record IsPart (now : Option (List ℕ)) (piece : List ℕ) (i : ℕ) : Type 0 where
    pub done : List ℕ
    pub appended : Appends old now done
    pub text : done ++ piece ≡ header j.version ++ entry_lines names (take i j.entries)

  -- the whole text is what was written, the piece and the lines of the other entries
  whole_is : (now : Option (List ℕ)) (piece : List ℕ) (i : ℕ) (part : IsPart now piece i) → journal_text names j ≡ part.done ++ (piece ++ entry_lines names (drop i j.entries))
  whole_is now piece i part =
      let left = entry_lines names (drop i j.entries) in
      ap (λ (es : List Entry). header j.version ++ entry_lines names es) (sym (take-append-drop i j.entries))
      ∙ ap (λ (t : List ℕ). header j.version ++ t) (flat_map-append (line names) (take i j.entries) (drop i j.entries))
      ∙ sym (append_assoc (header j.version) (entry_lines names (take i j.entries)) left)
      ∙ ap (λ (t : List ℕ). t ++ left) (sym part.text)
      ∙ append_assoc part.done piece left

  pub begun : (piece : List ℕ) → piece ≡ header j.version → IsPart old piece 0
  begun piece is = record { done = []; appended = Appends-nil old; text = is ∙ sym (append-nil (header j.version)) }

  pub line_more : (now : Option (List ℕ)) (piece new : List ℕ) (i : ℕ) (e : Entry) → IsPart now piece i → slice_get j.entries i ≡ Some e → new ≡ piece ++ line names e → IsPart now new (i + 1)
  line_more now piece new i e part here grown = record {
    done = part.done;
    appended = part.appended;
    text = lines_more names (part.done ++ piece) (part.done ++ new) (header j.version) j.entries i e here part.text
        (ap (λ (t : List ℕ). part.done ++ t) grown ∙ sym (append_assoc part.done piece (line names e)));
  }

  pub written : (mid now : Option (List ℕ)) (piece none : List ℕ) (i : ℕ) → IsPart mid piece i → Appends mid now piece → none ≡ [] → IsPart now none i
  written mid now piece none i part appended empty = record {
    done = part.done ++ piece;
    appended = Appends-trans old mid now part.done piece part.appended appended;
    text = ap (λ (t : List ℕ). (part.done ++ piece) ++ t) empty ∙ append-nil (part.done ++ piece) ∙ part.text;
  }

  -- at a fault a prefix is written
  pub faulted : (now : Option (List ℕ)) (piece : List ℕ) (i : ℕ) → IsPart now piece i → AppendsPrefix old now (journal_text names j)
  faulted now piece i part = (part.done, piece ++ entry_lines names (drop i j.entries), whole_is now piece i part, part.appended)

  pub cut : (mid now : Option (List ℕ)) (piece : List ℕ) (i : ℕ) → IsPart mid piece i → AppendsPrefix mid now piece → AppendsPrefix old now (journal_text names j)
  cut mid now piece i part (front, back, split, appended) =
      let left = entry_lines names (drop i j.entries) in (
        part.done ++ front,
        back ++ left,
        whole_is mid piece i part
            ∙ ap (λ (t : List ℕ). part.done ++ (t ++ left)) split
            ∙ ap (λ (t : List ℕ). part.done ++ t) (append_assoc front back left)
            ∙ sym (append_assoc part.done front (back ++ left)),
        Appends-trans old mid now part.done front part.appended appended,
      )

  -- and the whole text behind the last entry
  pub whole : (mid now : Option (List ℕ)) (piece : List ℕ) (i : ℕ) → IsPart mid piece i → take i j.entries ≡ j.entries → Appends mid now piece → Appends old now (journal_text names j)
  whole mid now piece i part all appended =
      subst (λ (t : List ℕ). Appends old now t) (part.text ∙ ap (λ (es : List Entry). header j.version ++ entry_lines names es) all)
      (Appends-trans old mid now part.done piece part.appended appended)
