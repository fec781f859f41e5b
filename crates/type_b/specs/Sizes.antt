-- Frame sizes. Assumes nothing.
use Rattle.std.specs.Prelude.{ℕ, cond, Some, None, Option, ◌==◌}
use Rattle.type_b.specs.declared.size.FrameSize.{FrameSize}
use Rattle.type_b.specs.declared.size.FrameSize.TheVariants.{Bytes64, Bytes96, Bytes128, Bytes256}

-- how many bytes a frame has at most
abbrev pub size_of : FrameSize → ℕ
size_of Bytes64 = 64
size_of Bytes96 = 96
size_of Bytes128 = 128
size_of Bytes256 = 256

-- the size that the low half of Param2 stands for: 5, 6, 7 or 8
abbrev pub size_code : ℕ → Option FrameSize
size_code n =
    cond (n == 5) (Some Bytes64)
    (cond (n == 6) (Some Bytes96)
    (cond (n == 7) (Some Bytes128)
    (cond (n == 8) (Some Bytes256)
    None)))
