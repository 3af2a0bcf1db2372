-- What is written is read again as what it was.
use Rattle.std.proofs.Common.{◌≡◌, ℕ, ◌+◌, ◌*◌, ◌/◌, ◌%◌, ◌^◌, ◌<◌, Bool, true, false, cond, eqb, List, [], ◌∷◌, ◌++◌}
use Rattle.std.proofs.Common.{length, drop, IfSome, Some, None, Ok, Err, Option, Result, sym, refl, ap, ◌∙◌, subst}
use Rattle.std.proofs.Common.{arith}
use Rattle.std.proofs.lemmas.Bool.{eq-eqb, le-ltb, lt-ltb}
use Rattle.std.proofs.lemmas.List.{append_assoc, append-nil, length-append, length_push, take_at, drop_at, get_or_at}
use Rattle.std.proofs.lemmas.Nat.{shr-shr, div_below}
use Rattle.codes.specs.declared.command.Command.{Command}
use Rattle.codes.specs.declared.code.Code.{Code}
use Rattle.codes.specs.declared.network.NetworkMode.{NetworkMode}
use Rattle.codes.specs.declared.network.NetworkMode.TheVariants.{Single, Network as Networked}
use Rattle.codes.specs.declared.numbered.Coded.{Coded}
use Rattle.codes.specs.declared.numbered.Coded.TheVariants.{Known}
use Rattle.codes.specs.declared.refusal.Refusal.{Refusal}
use Rattle.codes.specs.declared.refusal.Refusal.TheVariants.{Terminal}
use Rattle.codes.specs.Codes.{code_number}
use Rattle.packet.specs.declared.form.Form.{Form}
use Rattle.packet.specs.declared.form.Form.TheVariants.{Standard, Network}
use Rattle.packet.specs.declared.form.Head.{Head}
use Rattle.packet.specs.declared.response.Outcome.{Outcome}
use Rattle.packet.specs.declared.response.Reply.{Reply}
use Rattle.packet.specs.Numbers.{checksum_of}
use Rattle.packet.specs.Heads.{head_bytes, read_head, summed_bytes}
use Rattle.packet.specs.Data.{asks_with_data, answers_with_data, data_bytes, split_data}
use Rattle.packet.specs.Requests.{RequestParts, nothing_behind, read_request, request_of, request_head, request_bytes, with_data}
use Rattle.codes.proofs.Known.{known-code}
use Rattle.packet.specs.Responses.{ResponseParts, answered, bytes_in, carries, either_head, outcome_bytes, outcome_head}
use Rattle.packet.specs.Responses.{read_response, reply_bytes, reply_form, response_of}
use Rattle.packet.specs.Trips.{AsRead, Belongs, HeardIn, Heard, Proper, ReadAs, sent, sent_in}

-- four bytes, low first, are the number again
whole32 : (n : ℕ) → n < 2 ^ 32
    → n % 256 + n / 256 % 256 * 256 + n / 65536 % 256 * 65536 + n / 16777216 % 256 * 16777216 ≡ n
whole32 n h =
    let top : n / 16777216 < 256 = div_below n 16777216 256 (omega arith) (omega arith) in
    let m₁ : n / 256 % 256 + n / 65536 * 256 ≡ n / 256 = rw (← shr-shr n 8 8) (omega arith) in
    let m₂ : n / 65536 % 256 + n / 16777216 * 256 ≡ n / 65536 = rw (← shr-shr n 16 8) (omega arith) in
    omega arith

whole16 : (n : ℕ) → n < 2 ^ 16 → n % 256 + n / 256 % 256 * 256 ≡ n
whole16 n h = omega arith

abbrev head_of : Form → Coded Command → ℕ → ℕ → ℕ → Head
head_of form command param size flag = record { form = form; command = command; param = param; size = size; flag = flag }

read-head : (mode : NetworkMode) (form : Form) (command : Coded Command) (param size flag : ℕ) (rest : List ℕ) → HeardIn mode form
    → AsRead command → param < 2 ^ 32 → size < 2 ^ 32
    → read_head mode (head_bytes (head_of form command param size flag) ++ rest) ≡ Ok (head_of form command param size flag, rest)
read-head Single Standard command param size flag rest f c p s =
    let sum = checksum_of (summed_bytes (head_of Standard command param size flag)) in
    rw (
      eq-eqb sum sum refl,
      le-ltb (length (head_bytes (head_of Standard command param size flag) ++ rest)) 13 (omega arith),
      c,
      whole32 param p,
      whole32 size s,
    )
read-head Single (Network n) command param size flag rest f c p s = absurd f
read-head Networked Standard command param size flag rest f c p s = absurd f
read-head Networked (Network n) command param size flag rest f c p s =
    let sum = checksum_of (summed_bytes (head_of (Network n) command param size flag)) in
    rw (
      eq-eqb sum sum refl,
      le-ltb (length (head_bytes (head_of (Network n) command param size flag) ++ rest)) 15 (omega arith),
      c,
      whole16 n f,
      whole32 param p,
      whole32 size s,
    )

read-data : (carried : Bool) (size : ℕ) (bs behind : List ℕ) → Belongs carried size bs
    → split_data carried size (data_bytes carried bs ++ behind) ≡ Ok (bs, behind)
read-data false size bs behind h = ap (λ l. Ok (l, behind)) (sym h)
read-data true size bs behind h =
    let joined : (bs ++ 0x0A ∷ []) ++ behind ≡ bs ++ 0x0A ∷ behind = append_assoc bs (0x0A ∷ []) behind in
    let len : size < length (bs ++ 0x0A ∷ behind) = rw length-append (omega arith) in
    let end : drop (size + 1) (bs ++ 0x0A ∷ behind) ≡ behind =
    ap (drop (size + 1)) (sym joined) ∙ drop_at (bs ++ 0x0A ∷ []) behind (size + 1) (length_push bs 0x0A ∙ ap (λ n. n + 1) h) in
    rw (joined, lt-ltb size (length (bs ++ 0x0A ∷ behind)) len, get_or_at bs 0x0A behind 0 size h, take_at bs (0x0A ∷ behind) size h, end)

pub requests-read-back : (mode : NetworkMode) (own : ℕ) (q : RequestParts) → Heard mode own q
    → read_request mode own (request_bytes q) ≡ Ok q
requests-read-back mode own q h =
    let carried = asks_with_data q.command in
    let head : read_head mode (request_bytes q) ≡ Ok (request_head q, data_bytes carried q.«data») =
    read-head mode q.form q.command q.param q.size q.flag (data_bytes carried q.«data») h.form_heard h.as_read h.param_fits h.size_fits in
    let body : split_data carried q.size (data_bytes carried q.«data») ≡ Ok (q.«data», []) =
    ap (split_data carried q.size) (sym (append-nil (data_bytes carried q.«data»))) ∙ read-data carried q.size q.«data» [] h.data_belongs in
    ap (request_of own) head
    ∙ ap (λ b. cond b (with_data (request_head q)
    (nothing_behind (split_data carried q.size (data_bytes carried q.«data»)))) (Err Terminal)) h.for_it
    ∙ ap (λ r. with_data (request_head q) (nothing_behind r)) body

-- a form with a terminal number of two bytes
abbrev pub FormFits : Form → Type 0
FormFits Standard = Unit {0}
FormFits (Network n) = n < 2 ^ 16

read-either : (form : Form) (command : Coded Command) (param size flag : ℕ) (rest : List ℕ) → FormFits form
    → AsRead command → param < 2 ^ 32 → size < 2 ^ 32
    → either_head (head_bytes (head_of form command param size flag) ++ rest) ≡ Ok (head_of form command param size flag, rest)
read-either Standard command param size flag rest f c p s = read-head Single Standard command param size flag rest tt c p s
read-either (Network n) command param size flag rest f c p s = read-head Networked (Network n) command param size flag rest f c p s

-- whatever stands behind a response, another one too
pub responses-read-back : (form : Form) (o : Outcome) (bs behind : List ℕ) → FormFits form → AsRead o.command → o.param < 2 ^ 32
    → o.size < 2 ^ 32 → Belongs (carries o) o.size bs → read_response (outcome_bytes form o bs ++ behind) ≡ Ok (answered form o bs, behind)
responses-read-back form o bs behind f c p s b =
    let head : either_head (outcome_bytes form o bs ++ behind) ≡ Ok (outcome_head form o, data_bytes (carries o) bs ++ behind) =
    ap either_head (append_assoc (head_bytes (outcome_head form o)) (data_bytes (carries o) bs) behind)
    ∙ read-either form o.command o.param o.size (code_number o.code) (data_bytes (carries o) bs ++ behind) f c p s in
    ap response_of head
    ∙ ap (λ k. with_code k (split_data (answers_with_data o.command k) o.size (data_bytes (carries o) bs ++ behind))) (known-code o.code)
    ∙ ap (with_code (Known o.code)) (read-data (carries o) o.size bs behind b)
  where
    with_code : Coded Code → Result (List ℕ × List ℕ) Refusal → Result (ResponseParts × List ℕ) Refusal
    with_code k (Ok x) = Ok (record { form = form; command = o.command; param = o.param; size = o.size; code = k; «data» = x.0 }, x.1)
    with_code k (Err e) = Err e

-- a reply and the responses behind it read back, one after the other
pub reply-form-fits : (own : ℕ) (to : Form) → own < 2 ^ 16 → IfSome (reply_form own to) FormFits
reply-form-fits own Standard h = tt
reply-form-fits own (Network n) h = by-test (eqb n 0)
  where
    by-test : (b : Bool) → IfSome (cond b None (Some (Network own))) FormFits
    by-test true = tt
    by-test false = h

pub read-in : (f : Option Form) (o : Outcome) (bs behind : List ℕ) (ps : List ResponseParts) → IfSome f FormFits → AsRead o.command
    → o.param < 2 ^ 32 → o.size < 2 ^ 32 → Belongs (carries o) o.size bs → ReadAs behind ps
    → ReadAs (bytes_in f o bs ++ behind) (sent_in f o bs ++ ps)
read-in None o bs behind ps f c p s b r = r
read-in (Some form) o bs behind ps f c p s b r = (
  behind,
  (responses-read-back form o bs behind f c p s b, r),
)

-- numbers that fit their fields
pub record Fitting (own : ℕ) (y : Reply) : Type 0 where
  pub own-fits : own < 2 ^ 16
  pub param_fits : y.outcome.param < 2 ^ 32
  pub size_fits : y.outcome.size < 2 ^ 32

reply-read : (own : ℕ) (y : Reply) (behind : List ℕ) (ps : List ResponseParts) → Fitting own y → Proper y → ReadAs behind ps
    → ReadAs (reply_bytes own y ++ behind) (sent own y ++ ps)
reply-read own y behind ps f h r =
    read-in (reply_form own y.to) y.outcome y.«data».now behind ps (reply-form-fits own y.to f.own-fits) h.as_read f.param_fits
    f.size_fits h.data_belongs r

pub one-read : (own : ℕ) (y : Reply) → Fitting own y → Proper y → ReadAs (reply_bytes own y) (sent own y)
one-read own y f h =
    let P : List ℕ → Type 0 = λ l. ReadAs l (sent own y) in
    let Q : List ResponseParts → Type 0 = λ l. ReadAs (reply_bytes own y ++ []) l in
    subst P (append-nil (reply_bytes own y)) (subst Q (append-nil (sent own y)) (reply-read own y [] [] f h refl))

pub two-read : (own : ℕ) (y z : Reply) → Fitting own y → Fitting own z → Proper y → Proper z
    → ReadAs (reply_bytes own y ++ reply_bytes own z) (sent own y ++ sent own z)
two-read own y z f g h k = reply-read own y (reply_bytes own z) (sent own z) f h (one-read own z g k)
