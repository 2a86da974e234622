-- Files in memory, and at which calls they fail.
use Rattle.std.specs.Prelude.{Bool, ℕ, List, Option, ◌||◌, is_none}
use Rattle.mig_io.specs.declared.mem_files.MemFiles.{MemFiles}
use Rattle.mig_io.specs.Counts.{is_listed}
use Rattle.mig_io.specs.Shelf.{bytes_on}

-- what a name holds
abbrev pub held_by : MemFiles → List ℕ → Option (List ℕ)
held_by files name = bytes_on files.shelf name

-- how many faults there were
abbrev pub fault_count : MemFiles → ℕ
fault_count files = files.faults.count.number

-- the names asked for
abbrev pub names_asked : MemFiles → List (List ℕ)
names_asked files = files.names.names

-- how many calls there were
abbrev pub calls_of : MemFiles → ℕ
calls_of files = files.faults.calls

-- the numbers of the calls that are to fail
abbrev pub listed_of : MemFiles → List ℕ
listed_of files = files.faults.listed

-- whether a call for this name fails: its number is listed, or the name holds nothing
abbrev pub fetch_fails : MemFiles → List ℕ → Bool
fetch_fails files name = is_listed (listed_of files) (calls_of files) || is_none (held_by files name)
