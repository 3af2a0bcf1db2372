-- The parameters that can be written: their values, and those of a fresh module.
use Rattle.std.specs.Prelude.{ℕ, ◌-◌, cond, [], ◌∷◌, Some, None, Option}
use Rattle.codes.specs.Numbers.{case_of}
use Rattle.codes.specs.declared.network.NetworkMode.{NetworkMode}
use Rattle.codes.specs.declared.network.NetworkMode.TheVariants.{Single, Network}
use Rattle.codes.specs.declared.parameter.Parameter.{Parameter}
use Rattle.codes.specs.declared.parameter.Parameter.TheVariants.{
  Timeout,
  TemplateSize,
  EnrollMode,
  SecurityLevel,
  ModuleId,
  EnrolledFinger,
  AvailableFinger,
  SendScanSuccess,
  NetworkMode as NetworkModeParameter,
}
use Rattle.matcher.specs.Levels.{level_number, levels}
use Rattle.matcher.specs.declared.level.SecurityLevel.TheVariants.{OneIn100k}
use Rattle.search.specs.Ids.{within}
use Rattle.std.specs.Option.{option_map}
use Rattle.machine.specs.declared.settings.EnrollMode.{EnrollMode as Mode}
use Rattle.machine.specs.declared.settings.EnrollMode.TheVariants.{Once, Twice, TwoTemplates}
use Rattle.machine.specs.declared.settings.Setting.{Setting}
use Rattle.machine.specs.declared.settings.Setting.TheVariants.{
  Timeout as SetTimeout,
  Enroll as SetEnroll,
  Security as SetSecurity,
  Scans as SetScans,
  Network as SetNetwork,
}
use Rattle.machine.specs.declared.settings.Settings.{Settings}
use Rattle.machine.specs.declared.settings.Switch.{Switch}
use Rattle.machine.specs.declared.settings.Switch.TheVariants.{Off, On}

-- a fresh module's parameters: ten seconds, two templates, one in 100,000, scans answered, standard packets
abbrev pub fresh_settings : Settings
fresh_settings = record { timeout = 10; enroll = TwoTemplates; security = OneIn100k; scans = On; network = Single }

abbrev pub enroll_mode_number : Mode → ℕ
enroll_mode_number Once = 0x30
enroll_mode_number Twice = 0x31
enroll_mode_number TwoTemplates = 0x41

abbrev pub switch_number : Switch → ℕ
switch_number Off = 0x30
switch_number On = 0x31

abbrev pub network_number : NetworkMode → ℕ
network_number Single = 0x30
network_number Network = 0x31

-- a parameter with a value that it takes: Timeout from 0x30 to 0x44, the others by their cases; the rest are only read
abbrev pub setting_of : Parameter → ℕ → Option Setting
setting_of Timeout v = cond (within 0x30 0x44 v) (Some (SetTimeout (v - 0x30))) None
setting_of TemplateSize v = None
setting_of EnrollMode v = option_map SetEnroll (case_of enroll_mode_number (Once ∷ Twice ∷ TwoTemplates ∷ []) v)
setting_of SecurityLevel v = option_map SetSecurity (case_of level_number levels v)
setting_of ModuleId v = None
setting_of EnrolledFinger v = None
setting_of AvailableFinger v = None
setting_of SendScanSuccess v = option_map SetScans (case_of switch_number (Off ∷ On ∷ []) v)
setting_of NetworkModeParameter v = option_map SetNetwork (case_of network_number (Single ∷ Network ∷ []) v)

-- the parameters once one is written
abbrev pub set : Settings → Setting → Settings
set p (SetTimeout v) = record { timeout = v; enroll = p.enroll; security = p.security; scans = p.scans; network = p.network }
set p (SetEnroll v) = record { timeout = p.timeout; enroll = v; security = p.security; scans = p.scans; network = p.network }
set p (SetSecurity v) = record { timeout = p.timeout; enroll = p.enroll; security = v; scans = p.scans; network = p.network }
set p (SetScans v) = record { timeout = p.timeout; enroll = p.enroll; security = p.security; scans = v; network = p.network }
set p (SetNetwork v) = record { timeout = p.timeout; enroll = p.enroll; security = p.security; scans = p.scans; network = v }

-- how many templates an enrolment by fingers gives
abbrev pub templates_in : Mode → ℕ
templates_in Once = 1
templates_in Twice = 1
templates_in TwoTemplates = 2
