-- The library's version, as one number.
use Rattle.std.specs.Prelude.{ℕ, ◌+◌, ◌*◌}

-- minor version and patch have two digits each, so that of two versions the later has the larger number
abbrev pub version_number : ℕ → ℕ → ℕ → ℕ
version_number major minor patch = major * 10000 + minor * 100 + patch

-- 0.8.0
abbrev pub version : ℕ
version = version_number 0 8 0
