-- The skin, and the cutoff that counts besides those of pairs.
use Rattle.std.specs.Prelude.{ℤ}
use Rattle.meaning.specs.declared.settings.Settings.{Settings}

abbrev pub neighbor : ℤ → Settings → Settings
neighbor skin s = record s { force = record s.force { skin = skin } }

-- 0: none counts besides
abbrev pub comm_cutoff : ℤ → Settings → Settings
comm_cutoff cutoff s = record s { force = record s.force { comm_cutoff = cutoff } }
