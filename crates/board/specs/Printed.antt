-- The bench board's listing, "whole", as document 01 prints it.
use Rattle.std.specs.Prelude.{ℕ, List, ◌++◌}
use Rattle.mps.specs.Words.{text}

unfoldable pub printed : List ℕ
unfolding text
printed =
    text "pointer 000F0000 imcr 0\n"
    ++ (text "table 000F0010 96 0 5\n"
    ++ (text "cpu 0 16 on boot\n"
    ++ (text "bus 0 ISA\n"
    ++ (text "ioapic 2 17 on FEC00000\n"
    ++ (text "int INT 0 1 0 0 2 1\n" ++ (text "lint EXTINT 0 0 0 0 255 0\n" ++ text "end\n"))))))
