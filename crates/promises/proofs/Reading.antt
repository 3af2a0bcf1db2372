-- What reading a frame gives; one that was accepted reads the same by the form that its start code shows.
use Rattle.std.proofs.Common.{◌≡◌, ℕ, ◌+◌, ◌-◌, ◌<◌, Bool, true, false, cond, not, ◌&&◌, ◌||◌, eqb, ltb, List, []}
use Rattle.std.proofs.Common.{length, get_or, take, drop, Ok, Err, Option, Result, sym, refl, ap, ◌∙◌, subst, ⊎_elim}
use Rattle.std.proofs.Common.{arith}
use Rattle.codes.specs.declared.network.NetworkMode.{NetworkMode}
use Rattle.codes.specs.declared.network.NetworkMode.TheVariants.{Single, Network}
use Rattle.codes.specs.declared.refusal.Refusal.{Refusal}
use Rattle.codes.specs.declared.refusal.Refusal.TheVariants.{TooShort, StartCode, EndCode, Checksum, Terminal, DataLength}
use Rattle.codes.specs.Coded.{coded}
use Rattle.codes.specs.Commands.{command_number, commands}
use Rattle.packet.specs.Data.{asks_with_data, split_data}
use Rattle.packet.specs.Heads.{fields_at, flaw, tested, unless}
use Rattle.packet.specs.Numbers.{checksum_of, le16}
use Rattle.packet.specs.Requests.{RequestParts, has_data, nothing_behind, read_request, request_of, with_data}
use Rattle.packet.specs.declared.form.Form.{Form}
use Rattle.packet.specs.declared.form.Form.TheVariants.{Standard, Network as NetworkForm}
use Rattle.std.proofs.lemmas.Bool.{cases_Bool, eq-eqb, eqb-true}
use Rattle.std.proofs.lemmas.Bool.Decides.{nat_tests}
use Rattle.std.proofs.lemmas.List.{length-take-le}
use Rattle.promises.specs.Record.{mode_of, owned_by, packet_at}
use Rattle.promises.specs.Record.Owner.{owner}
use Rattle.promises.proofs.Ways.{by-test}

pub refused : {X Y : Type 0} (e : Refusal) (x : X) → Err e ≡ Ok x → Y
refused e x p = let z : ◌≡◌ {A = ℕ} 0 1 = cc in absurd (omega arith)

same-request : (p q : RequestParts) → ◌≡◌ {A = Result RequestParts Refusal} (Ok p) (Ok q) → p ≡ q
same-request p q e = cc

-- the tests of a packet give no other refusal than these
by_tests : {H : Type 0} (Q : Result H Refusal → Type 0) (start n : ℕ) (xs : List ℕ) (x : H)
    → Q (Err TooShort) → Q (Err StartCode) → Q (Err EndCode) → Q (Err Checksum) → Q (Ok x) → Q (tested start n xs x)
by_tests Q start n xs x short first last sum ok =
    let R : Option Refusal → Type 0 = λ o. Q (unless o x) in
    by-test Q (ltb (length xs) n) _ _ (λ _. short) (λ _.
    by-test R (not (eqb (get_or xs 0 0) start)) _ _ (λ _. first) (λ _.
    by-test R (not (eqb (get_or xs (n - 1) 0) 0x0A)) _ _ (λ _. last) (λ _.
    by-test R (not (eqb (get_or xs (n - 2) 0) (checksum_of (take (n - 2) xs)))) _ _ (λ _. sum) (λ _. ok))))

-- data that is cut off has as many bytes as were wanted
cut-off : (size : ℕ) (bs : List ℕ) → (ltb size (length bs) && eqb (get_or bs size 0) 0x0A) ≡ true → eqb (length (take size bs)) size ≡ true
cut-off size bs t =
    let long : size < length bs = grind (arith, nat_tests) in eq-eqb _ _ (length-take-le size bs (omega arith))

-- nor do those of its data
by-data : (Q : Result (List ℕ) Refusal → Type 0) (carries : Bool) (size : ℕ) (bs : List ℕ) → Q (Err DataLength)
    → ((ds : List ℕ) → (not carries || eqb (length ds) size) ≡ true → Q (Ok ds)) → Q (nothing_behind (split_data carries size bs))
by-data Q false size bs bad ok = by-test Q (eqb (length bs) 0) _ _ (λ _. ok [] refl) (λ _. bad)
by-data Q true size bs bad ok =
    let R : Result (List ℕ × List ℕ) Refusal → Type 0 = λ r. Q (nothing_behind r) in
    by-test R (ltb size (length bs) && eqb (get_or bs size 0) 0x0A) _ _
    (λ t. by-test Q (eqb (length (drop (size + 1) bs)) 0) _ _ (λ _. ok (take size bs) (cut-off size bs t)) (λ _. bad)) (λ _. bad)

-- a frame gives one of six refusals, or a request whose command is what some byte stands for
pub by-frame : (Q : Result RequestParts Refusal → Type 0) → Q (Err TooShort) → Q (Err StartCode) → Q (Err EndCode) → Q (Err Checksum)
    → Q (Err Terminal) → Q (Err DataLength)
    → ((form : Form) (n param size flag : ℕ) (bs : List ℕ)
    → (not (asks_with_data (coded command_number commands n)) || eqb (length bs) size) ≡ true → Q (Ok (record {
      form = form;
      command = coded command_number commands n;
      param = param;
      size = size;
      flag = flag;
      «data» = bs;
    })))
    → (mode : NetworkMode) (own : ℕ) (xs : List ℕ) → Q (read_request mode own xs)
by-frame Q short first last sum other bad ok Single own xs =
    let h = fields_at Standard 1 xs in
    by_tests (λ r. Q (request_of own r)) 0x40 13 xs _ short first last sum
    (by-data (λ r. Q (with_data h r)) (asks_with_data h.command) h.size (drop 13 xs) bad
    (λ bs whole. ok Standard (get_or xs 1 0) h.param h.size h.flag bs whole))
by-frame Q short first last sum other bad ok Network own xs =
    let form = NetworkForm (le16 xs 1) in
    let h = fields_at form 3 xs in
    by_tests (λ r. Q (request_of own r)) 0x41 15 xs _ short first last sum
    (by-test Q (eqb (le16 xs 1) own || eqb (le16 xs 1) 0) _ _
    (λ _. by-data (λ r. Q (with_data h r)) (asks_with_data h.command) h.size (drop 15 xs) bad
    (λ bs whole. ok form (get_or xs 3 0) h.param h.size h.flag bs whole)) (λ _. other))

-- so a request that was read has the data that Size says
pub reads-data : (mode : NetworkMode) (own : ℕ) (xs : List ℕ) (q : RequestParts) → read_request mode own xs ≡ Ok q → has_data q ≡ true
reads-data mode own xs q =
    by-frame (λ r. r ≡ Ok q → has_data q ≡ true) (refused TooShort q) (refused StartCode q) (refused EndCode q) (refused Checksum q)
    (refused Terminal q) (refused DataLength q)
    (λ form n param size flag bs whole e. let P : RequestParts → Type 0 = λ p. has_data p ≡ true in
    subst P (same-request _ q e) whole) mode own xs

-- a frame that passes the tests of a form begins with its start code; `k` is what comes after the tests, which keeps a refusal
starts : {H R : Type 0} (k : Result H Refusal → Result R Refusal) → ((e : Refusal) → k (Err e) ≡ Err e)
    → (start n : ℕ) (xs : List ℕ) (x : H) (q : R) → k (tested start n xs x) ≡ Ok q → get_or xs 0 0 ≡ start
starts {H} k keeps start n xs x q e =
    ⊎_elim
    (λ (short : ltb (length xs) n ≡ true).
    let P : Bool → Type 0 = λ b. k (cond b (Err TooShort) (passed (eqb (get_or xs 0 0) start))) ≡ Ok q in
    refused TooShort q (sym (keeps TooShort) ∙ subst P short e))
    (λ (long : ltb (length xs) n ≡ false).
    let P : Bool → Type 0 = λ b. k (cond b (Err TooShort) (passed (eqb (get_or xs 0 0) start))) ≡ Ok q in
    let f : k (passed (eqb (get_or xs 0 0) start)) ≡ Ok q = subst P long e in
    ⊎_elim
    (λ (t : eqb (get_or xs 0 0) start ≡ true). eqb-true (get_or xs 0 0) start t)
    (λ (t : eqb (get_or xs 0 0) start ≡ false).
    let Q : Bool → Type 0 = λ b. k (passed b) ≡ Ok q in refused StartCode q (sym (keeps StartCode) ∙ subst Q t f))
    (cases_Bool (eqb (get_or xs 0 0) start)))
    (cases_Bool (ltb (length xs) n))
  where
    passed : Bool → Result H Refusal
    passed b = unless (flaw b (eqb (get_or xs (n - 1) 0) 0x0A) (eqb (get_or xs (n - 2) 0) (checksum_of (take (n - 2) xs)))) x

pub mode-shows : (mode : NetworkMode) (own : ℕ) (frame : List ℕ) (q : RequestParts) → read_request mode own frame ≡ Ok q
    → mode_of frame ≡ mode
mode-shows Single own frame q e =
    let x : get_or frame 0 0 ≡ 0x40 = starts (request_of own) (λ _. refl) 0x40 13 frame _ q e in
    ap (λ b. cond b Network Single) (ap (λ n. eqb n 0x41) x)
mode-shows Network own frame q e =
    let x : get_or frame 0 0 ≡ 0x41 = starts (request_of own) (λ _. refl) 0x41 15 frame _ q e in
    ap (λ b. cond b Network Single) (ap (λ n. eqb n 0x41) x)

pub packet-there : (mode : NetworkMode) (own n : ℕ) (frame : List ℕ) (q : RequestParts) → read_request mode own frame ≡ Ok q
    → packet_at own n frame ≡ owner n q
packet-there mode own n frame q e =
    ap (λ m. owned_by n (read_request m own frame)) (mode-shows mode own frame q e) ∙ ap (owned_by n) e
