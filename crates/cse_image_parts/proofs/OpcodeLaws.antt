-- Each opcode has one code, and each code stands for one opcode at most.
use Rattle.std.proofs.Common.{◌≡◌, ℕ, ◌<◌, Some, refl, arith}
use Rattle.cse_image_parts.specs.declared.instruction.Op.{Op}
use Rattle.cse_image_parts.specs.declared.instruction.Op.TheVariants as ops
use Rattle.cse_image_parts.specs.Opcodes.{shape, op_code, op_of, all_ops}
use Rattle.cse_image_parts.specs.Codes.{HasOneCode}
use Rattle.cse_image_parts.proofs.CodeLaws.{named_back}

pub op_there : (o : Op) → op_of (op_code o) ≡ Some o
unfolding op_of shape
op_there ops.Number = refl
op_there ops.Special = refl
op_there ops.Text = refl
op_there ops.LoadLocal = refl
op_there ops.StoreLocal = refl
op_there ops.LoadGlobal = refl
op_there ops.StoreGlobal = refl
op_there ops.Add = refl
op_there ops.Subtract = refl
op_there ops.Multiply = refl
op_there ops.Quotient = refl
op_there ops.Remainder = refl
op_there ops.Negate = refl
op_there ops.Compare = refl
op_there ops.CompareText = refl
op_there ops.And = refl
op_there ops.Or = refl
op_there ops.Not = refl
op_there ops.IsSpecial = refl
op_there ops.Jump = refl
op_there ops.JumpUnless = refl
op_there ops.Index = refl
op_there ops.Occurrence = refl
op_there ops.Row = refl
op_there ops.CurrentOccurrence = refl
op_there ops.OccurrenceNumber = refl
op_there ops.TotalOccurrences = refl
op_there ops.IdNumber = refl
op_there ops.IdText = refl
op_there ops.ItemNumber = refl
op_there ops.ItemText = refl
op_there ops.StoreNumber = refl
op_there ops.StoreText = refl
op_there ops.LoadCell = refl
op_there ops.StoreCell = refl
op_there ops.InSet = refl
op_there ops.Message = refl
op_there ops.Impute = refl
op_there ops.Call = refl
op_there ops.Return = refl
op_there ops.LoopCount = refl
op_there ops.LoopOccurrences = refl
op_there ops.End = refl
op_there ops.Break = refl
op_there ops.Pop = refl

pub op_back : (n : ℕ) (o : Op) → op_of n ≡ Some o → op_code o ≡ n
unfolding op_of
op_back n o e = named_back op_code all_ops n o e

pub op_small : (o : Op) → op_code o < 256
unfolding shape
op_small ops.Number = omega arith
op_small ops.Special = omega arith
op_small ops.Text = omega arith
op_small ops.LoadLocal = omega arith
op_small ops.StoreLocal = omega arith
op_small ops.LoadGlobal = omega arith
op_small ops.StoreGlobal = omega arith
op_small ops.Add = omega arith
op_small ops.Subtract = omega arith
op_small ops.Multiply = omega arith
op_small ops.Quotient = omega arith
op_small ops.Remainder = omega arith
op_small ops.Negate = omega arith
op_small ops.Compare = omega arith
op_small ops.CompareText = omega arith
op_small ops.And = omega arith
op_small ops.Or = omega arith
op_small ops.Not = omega arith
op_small ops.IsSpecial = omega arith
op_small ops.Jump = omega arith
op_small ops.JumpUnless = omega arith
op_small ops.Index = omega arith
op_small ops.Occurrence = omega arith
op_small ops.Row = omega arith
op_small ops.CurrentOccurrence = omega arith
op_small ops.OccurrenceNumber = omega arith
op_small ops.TotalOccurrences = omega arith
op_small ops.IdNumber = omega arith
op_small ops.IdText = omega arith
op_small ops.ItemNumber = omega arith
op_small ops.ItemText = omega arith
op_small ops.StoreNumber = omega arith
op_small ops.StoreText = omega arith
op_small ops.LoadCell = omega arith
op_small ops.StoreCell = omega arith
op_small ops.InSet = omega arith
op_small ops.Message = omega arith
op_small ops.Impute = omega arith
op_small ops.Call = omega arith
op_small ops.Return = omega arith
op_small ops.LoopCount = omega arith
op_small ops.LoopOccurrences = omega arith
op_small ops.End = omega arith
op_small ops.Break = omega arith
op_small ops.Pop = omega arith

pub op_code_is_one : (o : Op) → HasOneCode op_code op_of o
op_code_is_one o = record { there = op_there o; back = λ n e. op_back n o e; small = op_small o }
