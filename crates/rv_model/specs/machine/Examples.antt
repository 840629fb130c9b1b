-- A small script with its output, for any quantum and any images.
use Rattle.std.specs.Prelude.{ℕ, ◌≡◌, List, [], ◌∷◌, ◌++◌, codes, replicate, map}
use Rattle.std.specs.List.{concat}
use Rattle.rv_model.specs.machine.Script.{whole}
use Rattle.rv_model.specs.machine.Setup.{Setup}

-- consecutive parts of the script, each with its output; the longest valid line has 1,024 bytes
abbrev pub small_script : List (List ℕ × List ℕ)
small_script =
    (codes "\n\n9 enter\n0 enter\n1\n \n", codes "* E01\n* E01\n* E01\n* E01\n")
    ∷ (codes "1 enter" ++ replicate 1018 32 ++ codes "\n", codes "* E02\n")
    ∷ (codes "1 dance\n1 \n1 leave\n1 regs\n1 enter now\n1 load a b\n", codes "1 E03\n1 E03\n1 E05\n1 E05\n1 E04\n1 E04\n")
    ∷ (codes "1 step 257\n1 step 01\n1 map fffffffff000 2 r\n1 setpc 2\n", codes "1 E04\n1 E04\n1 E04\n1 E04\n")
    ∷ (codes "1 set x0 1\n1 set x01 1\n1 set x32 1\n1 vset v0 00\n", codes "1 E04\n1 E04\n1 E04\n1 E04\n")
    ∷ (codes "1 vreg v0 128\n1 peek 0 0\n1 asm 0\n1 asm 2 ecall\n", codes "1 E04\n1 E04\n1 E04\n1 E04\n")
    ∷ (codes "1 asm 0  \n1 dis 0 0\n1 dis 2 1\n1 dis 0 17\n1 load\n", codes "1 E04\n1 E04\n1 E04\n1 E04\n1 E04\n")
    ∷ (codes "* list\n* \n* dance\n* stats 1\n", codes "* list 1:- 2:- 3:- 4:- 5:- 6:- 7:- 8:-\n* E03\n* E03\n* E04\n")
    ∷ (codes "* slices\n* slices 0\n* slices 1001\n* run 0\n* run 9\n", codes "* E04\n* E04\n* E04\n* E04\n* E04\n")
    ∷ (codes "* list 1\n* slices 1000\n* run 1\n1 policy ones\n", codes "* E04\n* granted 0\n* granted 0\n1 E05\n")
    ∷ (codes "1 enter" ++ replicate 1017 32 ++ codes "\n1 enter\n", codes "1 entered\n1 E06\n")
    ∷ (codes "8 enter\n2 regs\n2  enter \n2 enter\n1 trace\n", codes "8 entered\n2 E05\n2 entered\n2 E06\n1 trace\n")
    ∷ (codes "1 vcsr\n", codes "1 vl=0 vtype=8000000000000000 vstart=0 vxrm=0 vxsat=0\n")
    ∷ (codes "* stats\n1 state\n", codes "* saves 0 restores 0 inits 0 owner 0\n1 state stopped pc=0000000000000000\n")
    ∷ (codes "1 setpc 1000C\n9 x\n1 state\n", codes "1 ok\n* E01\n1 state stopped pc=000000000001000c\n")
    ∷ (codes "1 policy ones\n1 policy keep\n1 policy\n1 policy one\n", codes "1 ok\n1 ok\n1 E04\n1 E04\n")
    ∷ (codes "1 break 8\n1 break 0\n1 break 4\n1 break 4\n1 break 2\n", codes "1 ok\n1 ok\n1 ok\n1 E13\n1 E04\n")
    ∷ (codes "1 breaks\n", codes "1 breaks 0000000000000000 0000000000000004 0000000000000008\n")
    ∷ (codes "1 unbreak 0\n1 unbreak 4\n1 unbreak 4\n1 breaks\n", codes "1 ok\n1 ok\n1 E13\n1 breaks 0000000000000008\n")
    ∷ (codes "1 unbreak\n1 breaks 1\n1 go 1\n1 stop 1\n", codes "1 E04\n1 E04\n1 E04\n1 E04\n")
    ∷ (codes "1 go\n1 policy ones\n1 go\n1 regs\n", codes "1 running pc=000000000001000c\n1 E07\n1 E07\n1 E07\n")
    ∷ (codes "1 enter\n* list\n", codes "1 E06\n* list 1:running 2:stopped 3:- 4:- 5:- 6:- 7:- 8:stopped\n")
    ∷ (codes "1 state\n1 stop\n", codes "1 state running pc=000000000001000c\n1 stopped pc=000000000001000c\n")
    ∷ (codes "1 stop\n1 leave\n1 leave\n1 enter", codes "1 E14\n1 left\n1 E05\n1 entered\n")
    ∷ []

-- the script prints exactly this output, and an empty script prints nothing
abbrev pub SmallScriptsPrint : Type 0
SmallScriptsPrint = (setup : Setup)
    → (whole setup (concat (map (λ e. e.0) small_script)) ≡ concat (map (λ e. e.1) small_script)) × (whole setup [] ≡ [])
