-- A page is written: it holds the template, and the other pages stay.
use Rattle.std.proofs.Common.{◌≡◌, ℕ, ◌+◌, ◌-◌, ◌*◌, ◌<◌, ◌≤◌, List, ◌++◌, length, get_or, take, drop, sym, ap, ◌∙◌, ⊎_elim, arith}
use lib.Seq.{paste}
use Rattle.std.proofs.lemmas.List.{same_lists, places, length-take-le, drop-drop, take_at, drop_at, get_or-take, get_or-drop}
use Rattle.std.proofs.lemmas.List.Edits.{drop-paste, length-paste, paste_all}
use Rattle.std.proofs.lemmas.Bool.{cases_lt}
use Rattle.page_memory.specs.Pages.{page_bytes}
use Rattle.page_memory.specs.Listed.{page-length}

page-at : (bytes : List ℕ) (page i d : ℕ) → i < 256 → get_or (page_bytes bytes page) i d ≡ get_or bytes (page * 256 + i) d
page-at bytes page i d h = get_or-take 256 (drop (page * 256) bytes) i d h ∙ get_or-drop (page * 256) bytes i d

module _ (bytes : List ℕ) (page : ℕ) (template : List ℕ) (fits : page * 256 + 256 ≤ length bytes) (long : length template ≡ 256) where
  abbrev pub written : List ℕ
  written = paste bytes (page * 256) template 256

  pub written-length : length written ≡ length bytes
  written-length = length-paste bytes (page * 256) template 256 fits (omega arith)

  below : (j : ℕ) → j < page → page_bytes written j ≡ page_bytes bytes j
  below j b =
      let n = written-length in
      let l = page-length written j (omega arith) in
      same_lists (page_bytes written j) (page_bytes bytes j) (l ∙ sym (page-length bytes j (omega arith)))
      (λ i d h. let i' : i < 256 = omega arith in
      let same : get_or written (j * 256 + i) d ≡ get_or bytes (j * 256 + i) d = grind (arith, places) in
      page-at written j i d i' ∙ same ∙ sym (page-at bytes j i d i'))

  above : (a m : ℕ) → a ≡ page * 256 + 256 + m → drop a written ≡ drop a bytes
  above a m e =
      rw e (sym (drop-drop m (page * 256 + 256) written)
      ∙ ap (drop m) (drop-paste bytes (page * 256) template 256 (omega arith) (omega arith))
      ∙ drop-drop m (page * 256 + 256) bytes)

  pub page-other : (j : ℕ) → (j ≡ page → ⊥) → page_bytes written j ≡ page_bytes bytes j
  page-other j ne =
      ⊎_elim
      (λ (b : j < page). below j b)
      (λ (b : page ≤ j). ap (take 256) (above (j * 256) (j * 256 - (page * 256 + 256)) (omega arith)))
      (cases_lt j page)

  pub page-here : page_bytes written page ≡ template
  page-here =
      ap (λ xs. page_bytes xs page) (paste_all bytes (page * 256) template 256 (sym long))
      ∙ ap (take 256) (drop_at (take (page * 256) bytes) (template ++ drop (page * 256 + 256) bytes) (page * 256)
      (length-take-le (page * 256) bytes (omega arith)))
      ∙ take_at template (drop (page * 256 + 256) bytes) 256 long
