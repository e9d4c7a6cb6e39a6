-- The words that begin a statement.
use Rattle.std.specs.Prelude.{ℕ, Bool, true, false, List, [], ◌∷◌, ◌++◌, codes, ℤ, pos}
use Rattle.nv_isa.specs.declared.op.Op.{Op}
use Rattle.nv_isa.specs.declared.op.Op.TheVariants as op
use Rattle.nv_isa.specs.declared.op.Form.{Form}
use Rattle.nv_isa.specs.declared.op.Form.TheVariants as form
use Rattle.nv_isa.specs.Table.{encoding}
use Rattle.nv_asm.specs.declared.forms.Order.{Order}
use Rattle.nv_asm.specs.declared.forms.Order.TheVariants as order
use Rattle.nv_asm.specs.declared.forms.Shape.{Shape}
use Rattle.nv_asm.specs.declared.forms.Shape.TheVariants.{Registers, Immediate, Shift, Load, Store, Reserved, Atomic, Branch, JumpAndLink, Upper, Alone, LoadNumber, LoadAddress, Move, Jump, Text, Data, Zero, Entry}
use Rattle.nv_asm.specs.declared.forms.Kind.{Kind}
use Rattle.nv_asm.specs.declared.forms.Kind.TheVariants.{Plain, Bytes, Words, Ascii}

abbrev pub same_form : Form → Form → Bool
same_form form.Register form.Register = true
same_form form.Immediate form.Immediate = true
same_form form.Shift form.Shift = true
same_form form.Store form.Store = true
same_form form.Branch form.Branch = true
same_form form.Upper form.Upper = true
same_form form.Jump form.Jump = true
same_form form.Whole form.Whole = true
same_form form.Atomic form.Atomic = true
same_form form.Reserve form.Reserve = true
same_form _ _ = false

-- the form of the operation's words
abbrev pub has_form : Form → Op → Bool
has_form f o = same_form (encoding o).form f

-- the operands of a shape are those of its operation
abbrev pub is_lawful_shape : Shape → Bool
is_lawful_shape (Registers o) = has_form form.Register o
is_lawful_shape (Immediate o) = has_form form.Immediate o
is_lawful_shape (Shift o) = has_form form.Shift o
is_lawful_shape (Load o) = has_form form.Immediate o
is_lawful_shape (Store o) = has_form form.Store o
is_lawful_shape (Reserved o x) = has_form form.Reserve o
is_lawful_shape (Atomic o x) = has_form form.Atomic o
is_lawful_shape (Branch o) = has_form form.Branch o
is_lawful_shape (Upper o) = has_form form.Upper o
is_lawful_shape _ = true

abbrev pub is_lawful : Kind → Bool
is_lawful (Plain s) = is_lawful_shape s
is_lawful _ = true

-- the bits of an order: 2 * aq + rl
abbrev pub flags : Order → ℤ
flags order.Relaxed = pos 0
flags order.Acquire = pos 2
flags order.Release = pos 1
flags order.AcquireRelease = pos 3

-- an atomic operation by itself and with each suffix
abbrev pub each_order : List ℕ → (Order → Shape) → List (List ℕ × Kind) → List (List ℕ × Kind)
each_order name shape rest =
    (name, Plain (shape order.Relaxed)) ∷ (name ++ codes ".aq", Plain (shape order.Acquire)) ∷
    (name ++ codes ".rl", Plain (shape order.Release)) ∷ (name ++ codes ".aqrl", Plain (shape order.AcquireRelease)) ∷ rest

unfoldable pub kinds : List (List ℕ × Kind)
kinds =
    (codes "add", Plain (Registers op.Add)) ∷ (codes "sub", Plain (Registers op.Sub)) ∷ (codes "sll", Plain (Registers op.Sll)) ∷ (codes "slt", Plain (Registers op.Slt)) ∷ (codes "sltu", Plain (Registers op.Sltu)) ∷
    (codes "xor", Plain (Registers op.Xor)) ∷ (codes "srl", Plain (Registers op.Srl)) ∷ (codes "sra", Plain (Registers op.Sra)) ∷ (codes "or", Plain (Registers op.Or)) ∷ (codes "and", Plain (Registers op.And)) ∷
    (codes "addi", Plain (Immediate op.Addi)) ∷ (codes "slti", Plain (Immediate op.Slti)) ∷ (codes "sltiu", Plain (Immediate op.Sltiu)) ∷
    (codes "xori", Plain (Immediate op.Xori)) ∷ (codes "ori", Plain (Immediate op.Ori)) ∷ (codes "andi", Plain (Immediate op.Andi)) ∷
    (codes "slli", Plain (Shift op.Slli)) ∷ (codes "srli", Plain (Shift op.Srli)) ∷ (codes "srai", Plain (Shift op.Srai)) ∷
    (codes "lb", Plain (Load op.Lb)) ∷ (codes "lh", Plain (Load op.Lh)) ∷ (codes "lw", Plain (Load op.Lw)) ∷ (codes "lbu", Plain (Load op.Lbu)) ∷ (codes "lhu", Plain (Load op.Lhu)) ∷ (codes "jalr", Plain (Load op.Jalr)) ∷
    (codes "sb", Plain (Store op.Sb)) ∷ (codes "sh", Plain (Store op.Sh)) ∷ (codes "sw", Plain (Store op.Sw)) ∷
    (codes "beq", Plain (Branch op.Beq)) ∷ (codes "bne", Plain (Branch op.Bne)) ∷ (codes "blt", Plain (Branch op.Blt)) ∷ (codes "bge", Plain (Branch op.Bge)) ∷ (codes "bltu", Plain (Branch op.Bltu)) ∷ (codes "bgeu", Plain (Branch op.Bgeu)) ∷
    (codes "jal", Plain JumpAndLink) ∷ (codes "lui", Plain (Upper op.Lui)) ∷ (codes "auipc", Plain (Upper op.Auipc)) ∷
    (codes "fence", Plain (Alone 0x0ff0000f)) ∷ (codes "ecall", Plain (Alone 0x73)) ∷ (codes "ebreak", Plain (Alone 0x100073)) ∷ (codes "nop", Plain (Alone 0x13)) ∷
    (codes "li", Plain LoadNumber) ∷ (codes "la", Plain LoadAddress) ∷ (codes "mv", Plain Move) ∷ (codes "j", Plain Jump) ∷
    (codes ".text", Plain Text) ∷ (codes ".data", Plain Data) ∷ (codes ".zero", Plain Zero) ∷ (codes ".entry", Plain Entry) ∷
    (codes ".byte", Bytes) ∷ (codes ".word", Words) ∷ (codes ".ascii", Ascii) ∷
    (codes "mul", Plain (Registers op.Mul)) ∷ (codes "mulh", Plain (Registers op.Mulh)) ∷ (codes "mulhsu", Plain (Registers op.Mulhsu)) ∷ (codes "mulhu", Plain (Registers op.Mulhu)) ∷
    (codes "div", Plain (Registers op.Div)) ∷ (codes "divu", Plain (Registers op.Divu)) ∷ (codes "rem", Plain (Registers op.Rem)) ∷ (codes "remu", Plain (Registers op.Remu)) ∷
    each_order (codes "lr.w") (Reserved op.LoadReserved) (
    each_order (codes "sc.w") (Atomic op.StoreConditional) (
    each_order (codes "amoswap.w") (Atomic op.AmoSwap) (
    each_order (codes "amoadd.w") (Atomic op.AmoAdd) (
    each_order (codes "amoxor.w") (Atomic op.AmoXor) (
    each_order (codes "amoand.w") (Atomic op.AmoAnd) (
    each_order (codes "amoor.w") (Atomic op.AmoOr) (
    each_order (codes "amomin.w") (Atomic op.AmoMin) (
    each_order (codes "amomax.w") (Atomic op.AmoMax) (
    each_order (codes "amominu.w") (Atomic op.AmoMinu) (
    each_order (codes "amomaxu.w") (Atomic op.AmoMaxu) (
    [])))))))))))
