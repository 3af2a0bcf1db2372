-- Worked examples: what the machine, and the definitions below it, give at particular numbers.
use Rattle.std.specs.Prelude.{◌≡◌, ℕ, ◌+◌, ◌-◌, ◌*◌, ◌≤◌, true, false, List, [], ◌∷◌, map, length, drop, Some, None}
use Rattle.std.specs.Prelude.{Ok, slice_index}
use Rattle.codes.specs.declared.code.Code.TheVariants.{Success, InvalidId, FingerLimit}
use Rattle.codes.specs.declared.command.Command.{Command}
use Rattle.codes.specs.declared.command.Command.TheVariants.{Enroll, ListTemplates}
use Rattle.codes.specs.declared.flag.EnrollFlag.TheVariants.{AddNew}
use Rattle.codes.specs.declared.network.NetworkMode.TheVariants.{Single}
use Rattle.codes.specs.declared.numbered.Coded.TheVariants.{Known}
use Rattle.matcher.specs.Levels.{strictness_at}
use Rattle.packet.specs.Marked.{highest_password}
use Rattle.packet.specs.Numbers.{bytes32}
use Rattle.packet.specs.Requests.{RequestParts}
use Rattle.packet.specs.declared.form.Form.TheVariants.{Standard}
use Rattle.packet.specs.declared.response.Outcome.{Outcome}
use Rattle.point_matcher.specs.Points.{angles_near}
use Rattle.row_memory.specs.Rows.{capacity_of}
use Rattle.search.specs.Ids.{count_of}
use Rattle.std.specs.List.{flat_map}
use Rattle.machine.specs.Answers.{Step, answer_data, bytes_of, go, just}
use Rattle.machine.specs.Enrollment.{enroll_fault}
use Rattle.machine.specs.Ids.{is_id}
use Rattle.machine.specs.Machine.{on_event, requested}
use Rattle.machine.specs.Machine.Event.{packet}
use Rattle.machine.specs.Requests.{list, wait_for}
use Rattle.machine.specs.Settings.{templates_in}
use Rattle.machine.specs.State.{State}
use Rattle.machine.specs.State.Phase.{first_finger}
use Rattle.machine.specs.declared.enrollment.Enroller.TheVariants.{Host}
use Rattle.machine.specs.declared.settings.EnrollMode.{EnrollMode}
use Rattle.machine.specs.declared.settings.EnrollMode.TheVariants.{Once, TwoTemplates}

-- a request by a standard packet, without data
abbrev pub asks : Command → ℕ → ℕ → ℕ → RequestParts
asks command param size flag =
    record { form = Standard; command = Known command; param = param; size = size; flag = flag; «data» = [] }

-- the frame of ES for the ID 0x9929, but for its checksum
abbrev pub enrolls9929 : ℕ → List ℕ
enrolls9929 sum = 0x40 ∷ 0x05 ∷ 0x29 ∷ 0x99 ∷ 0 ∷ 0 ∷ 0 ∷ 0 ∷ 0 ∷ 0 ∷ 0 ∷ sum ∷ 0x0A ∷ []

-- LT for the block `index` of 50 IDs
abbrev pub asks_block : ℕ → RequestParts
asks_block index = asks ListTemplates index 50 0

-- ES under ADD_NEW
abbrev pub adds : ℕ → RequestParts
adds id = asks Enroll id 0 0x71

abbrev pub ids_held : State → List ℕ
ids_held s = map (λ e. e.id) s.held

-- a module that is not locked, and in which nothing waits
pub record Idle (s : State) : Type 0 where
  pub unlocked : s.locked ≡ false
  pub waits : s.waiting ≡ None

-- an idle module in a mode, and an ID that has so many templates in it
pub record Enrolls (s : State) (mode : EnrollMode) (id many : ℕ) : Type 0 where
  pub idle : Idle s
  pub mode_there : s.settings.enroll ≡ mode
  pub some_id : is_id id ≡ true
  pub many_there : count_of id s.held ≡ many

-- the request is heard: a first finger is awaited
abbrev pub awaits_finger : State → ℕ → Step
awaits_finger s id = wait_for s (adds id) (first_finger (record { id = id; flag = AddNew; by = Host }))

abbrev pub outcomes_of : Step → List Outcome
outcomes_of x = map (λ y. y.outcome) x.said

-- the checksum of ES for the ID 0x9929, and of LT answering three IDs; the IDs in a last block; the templates that
-- leave room for two more
pub record MarkedCases (enroll_sum list_sum last_block room_for_two : ℕ) : Type 0 where
  pub checksum_enrolling : (s : State) → s.settings.network ≡ Single
      → on_event s (packet (enrolls9929 enroll_sum)) ≡ Ok (requested s (asks Enroll 0x9929 0 0))
  pub checksum_listing : (s : State) → Idle s → length s.held ≡ 3
      → slice_index (bytes_of s.own (requested s (asks ListTemplates 0 0 0)).said) 11 ≡ list_sum
  pub strictness : (strictness_at 0x30 ≡ Some 0) × (strictness_at 0x40 ≡ Some 1) × (strictness_at 0x31 ≡ Some 2)
      × (strictness_at 0x46 ≡ Some 13) × (strictness_at 0x37 ≡ Some 14)
  pub password_sum : highest_password ≡ 0xF0 ∷ 0x0F ∷ []
  pub block_nine : (s : State) → Idle s → length s.held ≡ 490 → (length (drop 450 (ids_held s)) ≡ last_block)
      × (requested s (asks_block 9)
      ≡ go s (answer_data (asks_block 9) last_block (4 * last_block) Success
      (flat_map bytes32 (drop 450 (ids_held s)))))
  pub block_ten : (s : State) → Idle s → length s.held ≡ 490
      → requested s (asks_block 10) ≡ just s (asks_block 10) InvalidId
  pub two_more : (s : State) (id : ℕ) → Enrolls s TwoTemplates id room_for_two → 2 ≤ s.room - length s.held
      → requested s (adds id) ≡ awaits_finger s id
  pub two_too_many : (s : State) (id : ℕ) → Enrolls s TwoTemplates id (room_for_two + 1)
      → requested s (adds id) ≡ just s (adds id) FingerLimit
  pub one_more : (s : State) (id : ℕ) → Enrolls s Once id (room_for_two + 1) → 1 ≤ s.room - length s.held
      → requested s (adds id) ≡ awaits_finger s id
  -- whatever the module awaits, and in whatever mode: what LT makes of a block, and what stands in an enrolment's way
  pub block_nine_listed : (s : State) → length s.held ≡ 490
      → outcomes_of (list s (asks_block 9))
      ≡ (record { command = Known ListTemplates; param = last_block; size = 4 * last_block; code = Success }) ∷ []
  pub block_ten_past : (s : State) → length s.held ≡ 490
      → outcomes_of (list s (asks_block 10))
      ≡ (record { command = Known ListTemplates; param = 0; size = 0; code = InvalidId }) ∷ []
  pub two_pass : (s : State) (id : ℕ) → count_of id s.held ≡ room_for_two → 2 ≤ s.room - length s.held
      → enroll_fault s AddNew id (templates_in TwoTemplates) ≡ None
  pub two_limited : (s : State) (id : ℕ) → count_of id s.held ≡ room_for_two + 1
      → enroll_fault s AddNew id (templates_in TwoTemplates) ≡ Some FingerLimit
  pub one_passes : (s : State) (id : ℕ) → count_of id s.held ≡ room_for_two + 1 → 1 ≤ s.room - length s.held
      → enroll_fault s AddNew id (templates_in Once) ≡ None
  pub angles : (angles_near 250 2 ≡ true) × (angles_near 250 3 ≡ false)
  pub one_row : (bytes : List ℕ) → length bytes ≡ 386 → capacity_of bytes ≡ 1
  pub no_row : (bytes : List ℕ) → length bytes ≡ 385 → capacity_of bytes ≡ 0
