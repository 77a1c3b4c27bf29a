-- The system's numbers of errors (errno).
use Rattle.std.specs.Prelude.{ℤ, pos, zero, Option, None, Some}
use Rattle.std.specs.IoError.{raw_os_error}
use Rattle.std.specs.declared.io.Error.{Error}

-- the number, if there is one and it is not 0, which is no error; else that of a device that failed
abbrev pub or_device : Option ℤ → ℤ
or_device None = pos 5
or_device (Some (pos zero)) = pos 5
or_device (Some number) = number

-- the system's number of an error of std's, where it has one
abbrev pub system_number : Error → ℤ
system_number error = or_device (raw_os_error error)
