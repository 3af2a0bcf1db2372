-- Outcomes that are written, with room for all of them.
use Rattle.std.proofs.Common.{◌≡◌, ℕ, ◌+◌, ◌-◌, ◌^◌, ◌<◌, ◌≤◌, Bool, true, false, cond, eqb, List, [], ◌++◌, length}
use Rattle.std.proofs.Common.{take, drop, Some, None, Option, unwrap_or, sym, refl, ap, ◌∙◌, subst, ⊎_elim, arith}
use borrow.Rule.Slice.PartMut.{put_mid}
use Rattle.device.specs.View.{data_in}
use Rattle.device.specs.declared.answers.Data.{Data}
use Rattle.device.specs.declared.answers.Data.TheVariants.{Ids, Template}
use Rattle.device.specs.declared.answers.Told.{Told}
use Rattle.packet.specs.declared.response.Reply.{Reply}
use Rattle.engine.specs.Wrote.{Wrote}
use Rattle.memory.proofs.Blocks.{block-length, length-fours}
use Rattle.packet.specs.Numbers.{bytes32}
use Rattle.machine.specs.Answers.{Said, bytes_of}
use Rattle.memory.specs.Held.{Held, Sound, block_of, held_at, none}
use Rattle.packet.specs.Around.{data_place, place_in, standing}
use Rattle.packet.specs.Heads.{head_length}
use Rattle.packet.specs.Packets.{packet_bytes, written, written_count}
use Rattle.packet.specs.Responses.{bytes_in, carries, outcome_bytes, outcome_head, reply_bytes, reply_form}
use Rattle.packet.specs.Trips.{ReadAs}
use Rattle.packet.specs.declared.form.Form.{Form}
use Rattle.packet.specs.declared.form.Form.TheVariants.{Standard, Network}
use Rattle.packet.specs.declared.response.Outcome.{Outcome}
use Rattle.packet.proofs.Writes.{length-bare, length-packet, lent-on}
use Rattle.promises.proofs.Sent.{proper-reads}
use Rattle.promises.specs.Sent.{FittingSaid, sent_of}
use Rattle.std.specs.List.{AllByRecursion}
use Rattle.std.proofs.ByRecursion.{All-get_or}
use Rattle.std.proofs.lemmas.List.{append_assoc, drop_at, drop-drop, get_or_past, length-append, length-drop}
use Rattle.std.proofs.lemmas.List.{length-take-le, take-append-drop, take_at}
use Rattle.std.proofs.lemmas.Bool.{cases_Bool, cases_lt, le-leb}

-- bytes that stand at the front are what was said
pub wrote : (own : ℕ) (ys : List Said) (bs before after : List ℕ) (n : ℕ) → own < 2 ^ 16 → AllByRecursion FittingSaid ys
    → bytes_of own ys ≡ bs
    → n ≡ length bs → after ≡ bs ++ drop (length bs) before → Wrote own ys before after n
wrote own ys bs before after n small fit same e f =
    let front : take n after ≡ bytes_of own ys = ap (take n) f ∙ take_at bs (drop (length bs) before) n (sym e) ∙ sym same in
    record {
      count = e ∙ ap length (sym same);
      bytes = f ∙ ap (λ l. l ++ drop (length l) before) (sym same);
      reads = λ proper. (let P : List ℕ → Type 0 = λ xs. ReadAs xs (sent_of own ys) in
          subst P (sym front) (proper-reads own ys small fit proper));
    }

-- where there is room, all is written
pub settled : (bs out after : List ℕ) (o : Option ℕ) (n : ℕ) → o ≡ written_count bs out → after ≡ written bs out → length bs ≤ length out
    → n ≡ unwrap_or o 0 → (n ≡ length bs) × (after ≡ bs ++ drop (length bs) out)
settled bs out after o n e f fits k =
    let t = le-leb (length bs) (length out) fits in (
      k ∙ ap (λ x. unwrap_or x 0) e ∙ ap (λ b. unwrap_or (cond b (Some (length bs)) None) 0) t,
      f
          ∙ ap (λ b. cond b (bs ++ drop (length bs) out) out) t,
    )

-- a reply without data is what was told
pub told-bytes : (own : ℕ) (t : Told) (r : Reply) → r.to ≡ t.to → r.outcome ≡ t.outcome → r.«data».now ≡ []
    → reply_bytes own r ≡ bytes_in (reply_form own t.to) t.outcome []
told-bytes own t r e f g = ap (λ to. bytes_in (reply_form own to) r.outcome r.«data».now) e
    ∙ ap (λ o. bytes_in (reply_form own t.to) o r.«data».now) f
    ∙ ap (bytes_in (reply_form own t.to) t.outcome) g

-- how long a reply is
short-head : (f : Form) → head_length f ≤ 15
short-head Standard = omega arith
short-head (Network n) = omega arith

pub short-reply : (f : Option Form) (o : Outcome) (bs : List ℕ) → length (bytes_in f o bs) ≤ 16 + length bs
short-reply None o bs = omega arith
short-reply (Some f) o bs =
    ⊎_elim
    (λ (t : carries o ≡ true). omega (arith, length-packet (outcome_head f o) (carries o) bs t, short-head f))
    (λ (t : carries o ≡ false). omega (arith, length-bare (outcome_head f o) (carries o) bs t, short-head f))
    (cases_Bool (carries o))

-- an outcome that has no place for data is the same with any
pub bare : (own : ℕ) (to : Form) (o : Outcome) (xs ys : List ℕ) → None ≡ data_place to o
    → bytes_in (reply_form own to) o xs ≡ bytes_in (reply_form own to) o ys
bare own to o xs ys e = at to (carries o) refl e
  where
    none-some : {X : Type 0} (n : ℕ) → None ≡ Some n → X
    none-some n e = absurd (let z : ◌≡◌ {A = ℕ} 0 1 = cc in omega arith)

    quiet : (form : Form) → carries o ≡ false → outcome_bytes form o xs ≡ outcome_bytes form o ys
    quiet form t = ap (λ b. packet_bytes (outcome_head form o) b xs) t ∙ sym (ap (λ b. packet_bytes (outcome_head form o) b ys) t)

    at : (f : Form) (b : Bool) → carries o ≡ b → None ≡ cond b (place_in f) None
        → bytes_in (reply_form own f) o xs ≡ bytes_in (reply_form own f) o ys
    at Standard true t e = none-some (head_length Standard) e
    at Standard false t e = quiet Standard t
    at (Network n) b t e = by (eqb n 0) b t e
      where
        by : (z b : Bool) → carries o ≡ b → None ≡ cond b (cond z None (Some (head_length (Network n)))) None
            → bytes_in (cond z None (Some (Network own))) o xs ≡ bytes_in (cond z None (Some (Network own))) o ys
        by true b t e = refl
        by false true t e = none-some (head_length (Network n)) e
        by false false t e = quiet (Network own) t

-- the place of the data, and the reply around it
pub record Place (own : ℕ) (to : Form) (o : Outcome) (at : ℕ) : Type 0 where
  pub head : at ≡ head_length to
  pub low : at ≤ 15
  pub whole : (bs : List ℕ) → length (bytes_in (reply_form own to) o bs) ≡ at + (length bs + 1)

pub place : (own : ℕ) (to : Form) (o : Outcome) (at : ℕ) → Some at ≡ data_place to o → Place own to o at
place own to o at e = by to (carries o) refl e
  where
    no_place : {X : Type 0} → Some at ≡ None → X
    no_place e = absurd (let z : ◌≡◌ {A = ℕ} 0 1 = cc in omega arith)

    by : (f : Form) (b : Bool) → carries o ≡ b → Some at ≡ cond b (place_in f) None → Place own f o at
    by Standard true t e =
        let k : at ≡ head_length Standard = cc in
        record {
          head = k;
          low = omega (arith, k);
          whole = λ bs. length-packet (outcome_head Standard o) (carries o) bs t
              ∙ ap (λ n. n + (length bs + 1)) (sym k);
        }
    by Standard false t e = no_place e
    by (Network n) false t e = no_place e
    by (Network n) true t e = is (eqb n 0) refl e
      where
        is : (z : Bool) → eqb n 0 ≡ z → Some at ≡ cond z None (Some (head_length (Network n))) → Place own (Network n) o at
        is true y e = no_place e
        is false y e =
            let k : at ≡ head_length (Network n) = cc in
            record {
              head = k;
              low = omega (arith, k);
              whole = λ bs. ap (λ z. length (bytes_in (cond z None (Some (Network own))) o bs)) y
                  ∙ length-packet (outcome_head (Network own) o) (carries o) bs t ∙ ap (λ n. n + (length bs + 1)) (sym k);
            }

-- how long data is: at most four bytes for each of 500 templates
pub short-data : (size room : ℕ) (h : List Held) (d : Data) → size ≤ 384 → length h ≤ room → room ≤ 500
    → AllByRecursion (Sound size) h → length (data_in h d) ≤ 2000
short-data size room h (Ids from most) small l r sound =
    omega (arith, length-fours bytes32 (λ _. refl) (block_of from most h), block-length from most h)
short-data size room h (Template place) small l r sound =
    ⊎_elim
    (λ (t : place < length h). let w = All-get_or (Sound size) h place none t sound in omega (arith, w.2))
    (λ (t : length h ≤ place). let z : length (held_at h place).template ≡ 0 =
    ap (λ x. length x.template) (get_or_past h place none t) in omega arith)
    (cases_lt place (length h))

-- data put to its place, and the reply written around it
module _ (own : ℕ) (to : Form) (o : Outcome) (at : ℕ) (p : Place own to o at) (out w bs : List ℕ) (n : ℕ)
    (inside : at + (length bs + 1) ≤ length out)
    (many : n ≡ length bs) (put : w ≡ bs ++ drop n (take (length out - at) (drop at out))) where
  abbrev m : List ℕ
  m = put_mid at (length out - at) out w

  lent : m ≡ take at out ++ bs ++ drop (at + length bs) out
  lent =
      lent-on at at (length bs) out out (take at out) bs w refl (length-take-le at out (omega arith)) (sym (take-append-drop at out))
      (put ∙ ap (λ k. bs ++ drop k (take (length out - at) (drop at out))) many)

  head-long : length (take at out) ≡ at
  head-long = length-take-le at out (omega arith)

  both_long : length (take at out ++ bs) ≡ at + length bs
  both_long = length-append (take at out) bs ∙ ap (λ k. k + length bs) head-long

  stands : standing to n m ≡ bs
  stands =
      ap (λ k. take k (drop (head_length to) m)) many ∙ ap (λ k. take (length bs) (drop k m)) (sym p.head)
      ∙ ap (λ l. take (length bs) (drop at l)) (lent ∙ append_assoc (take at out) bs (drop (at + length bs) out))
      ∙ ap (take (length bs)) (drop_at (take at out) (bs ++ drop (at + length bs) out) at head-long)
      ∙ take_at bs (drop (at + length bs) out) (length bs) refl

  m-long : length m ≡ length out
  m-long =
      ap length (lent ∙ append_assoc (take at out) bs (drop (at + length bs) out))
      ∙ length-append (take at out) (bs ++ drop (at + length bs) out)
      ∙ ap (λ k. k + length (bs ++ drop (at + length bs) out)) head-long
      ∙ ap (λ k. at + k) (length-append bs (drop (at + length bs) out)
      ∙ ap (λ k. length bs + k) (length-drop (at + length bs) out)) ∙ omega arith

  behind : drop (at + (length bs + 1)) m ≡ drop (at + (length bs + 1)) out
  behind =
      let next : at + length bs + 1 ≡ at + (length bs + 1) = omega arith in
      let same : drop (at + length bs) m ≡ drop (at + length bs) out =
      ap (drop (at + length bs)) lent ∙ drop_at (take at out ++ bs) (drop (at + length bs) out) (at + length bs) both_long in
      ap (λ k. drop k m) (sym next) ∙ sym (drop-drop 1 (at + length bs) m) ∙ ap (drop 1) same
      ∙ drop-drop 1 (at + length bs) out ∙ ap (λ k. drop k out) next

  abbrev full : List ℕ
  full = bytes_in (reply_form own to) o bs

  pub around : (after : List ℕ) (r : Option ℕ) (k : ℕ) → r ≡ written_count (bytes_in (reply_form own to) o (standing to n m)) m
      → after ≡ written (bytes_in (reply_form own to) o (standing to n m)) m → k ≡ unwrap_or r 0
      → (k ≡ length full) × (after ≡ full ++ drop (length full) out)
  around after r k e f v =
      let same = ap (bytes_in (reply_form own to) o) stands in
      let t = settled full m after r k (e ∙ ap (λ x. written_count x m) same) (f ∙ ap (λ x. written x m) same)
      (omega (arith, p.whole bs, m-long)) v in
      (t.0, t.1 ∙ ap (λ j. full ++ drop j m) (p.whole bs) ∙ ap (λ l. full ++ l) behind ∙ ap (λ j. full ++ drop j out) (sym (p.whole bs)))
