-- What a module is made of, and the module that is made of it.
use Rattle.std.specs.Prelude.{ℕ, Bool, cond, List, min, codes, unwrap_or, Some, None, Option}
use Rattle.std.specs.Str.{bytes_eq}
use Rattle.machine.specs.State.{State, fresh}
use Rattle.point_matcher.specs.Points.{point_yes}
use Rattle.session.specs.declared.making.Making.{Making}
use Rattle.session.specs.declared.making.MatcherKind.{MatcherKind}
use Rattle.session.specs.declared.making.MatcherKind.TheVariants.{Byte, Point}
use Rattle.session.specs.declared.making.MemoryKind.{MemoryKind}
use Rattle.session.specs.declared.making.MemoryKind.TheVariants.{Pages, Rows}

-- when a stored template and a scan agree at a strictness
abbrev pub agree_by : MatcherKind → List ℕ → List ℕ → ℕ → Bool
agree_by Byte stored scan strictness = bytes_eq stored scan
agree_by Point stored scan strictness = point_yes stored scan strictness

-- the bytes of a template
abbrev pub size_of : MemoryKind → ℕ
size_of (Pages n) = 256
size_of (Rows n) = 384

-- how many templates the memory can hold: one in each page or row, but no more than its kind takes
abbrev pub room_of : MemoryKind → ℕ
room_of (Pages n) = min 64 n
room_of (Rows n) = min 500 n

-- the module that is made
abbrev pub made_of : Making → State
made_of m = fresh (agree_by m.matcher) (size_of m.memory) (room_of m.memory) m.number

-- the matcher that a name names
abbrev pub named : List ℕ → Option MatcherKind
named name =
    cond (bytes_eq name (codes "byte")) (Some Byte) (cond (bytes_eq name (codes "point")) (Some Point) None)

-- rows, where they are chosen, or else pages, 16 where none are chosen
abbrev pub memory_chosen : Option ℕ → Option ℕ → MemoryKind
memory_chosen pages (Some rows) = Rows rows
memory_chosen pages None = Pages (unwrap_or pages 16)

abbrev pub chosen : Option ℕ → Option ℕ → Option MatcherKind → Option ℕ → Making
chosen pages rows matcher number = record {
  memory = memory_chosen pages rows;
  matcher = unwrap_or matcher Byte;
  number = unwrap_or number 1;
}
