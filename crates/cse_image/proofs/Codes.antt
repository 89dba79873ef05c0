-- The laws of fields of one byte, or two, that stand for a value.
use Rattle.std.proofs.Common.{ℕ, Bool, Option, arith}
use Rattle.cse_value.specs.declared.shape.ItemKind.{ItemKind}
use Rattle.cse_image_parts.specs.declared.entries.GlobalKind.{GlobalKind}
use Rattle.cse_image_parts.specs.declared.entries.LocalKind.{LocalKind}
use Rattle.cse_image_parts.specs.declared.entries.Ambient.{Ambient}
use Rattle.cse_image_parts.specs.declared.entries.Gift.{Gift}
use Rattle.cse_image_parts.specs.declared.entries.EventCode.{EventCode}
use Rattle.cse_image_parts.specs.declared.instruction.Op.{Op}
use Rattle.cse_image_parts.specs.declared.version.Version.{Version}
use Rattle.cse_image_parts.specs.Codes.{HasOneCode, flag_code, flag_of, item_kind_code, item_kind_of, global_kind_code, global_kind_of, local_kind_code, local_kind_of, ambient_code, ambient_of, gift_code, gift_of, event_code, event_code_of}
use Rattle.cse_image_parts.specs.Versions.{version_code, version_of}
use Rattle.cse_image_parts.specs.Opcodes.{op_code, op_of}
use Rattle.cse_image_parts.proofs.CodeLaws.{flag_code_is_one, item_kind_code_is_one, global_kind_code_is_one, local_kind_code_is_one, ambient_code_is_one, gift_code_is_one, event_code_is_one, version_code_is_one}
use Rattle.cse_image_parts.proofs.OpcodeLaws.{op_code_is_one}
use Rattle.cse_image_parts.specs.declared.fault.Rule.{Rule}
use Rattle.cse_image_parts.specs.declared.fault.Rule.TheVariants.{Header, Form}
use Rattle.cse_image_parts.specs.Reader.{number, decoded}
use Rattle.cse_image_parts.specs.Spelling.{u8, u16}
use Rattle.cse_image_parts.proofs.Algebra.{Laws, decoded_laws, number_laws}
use Rattle.cse_image.specs.Reading.{flag_at}

byte_laws : {X : Type 0} (code : X → ℕ) (value : ℕ → Option X) → ((x : X) → HasOneCode code value x) → Laws (decoded Form value (number 1)) (λ x. u8 (code x)) (λ x. Unit {0})
byte_laws code value one = decoded_laws Form value code (number_laws 1) (λ x. (one x).there) (λ n x e. (one x).back n e) (λ x. (one x).small)

pub flag_laws : Laws flag_at (λ b. u8 (flag_code b)) (λ b. Unit {0})
unfolding flag_at
flag_laws = byte_laws flag_code flag_of flag_code_is_one

pub item_kind_laws : Laws (decoded Form item_kind_of (number 1)) (λ (k : ItemKind). u8 (item_kind_code k)) (λ k. Unit {0})
item_kind_laws = byte_laws item_kind_code item_kind_of item_kind_code_is_one

pub global_kind_laws : Laws (decoded Form global_kind_of (number 1)) (λ (k : GlobalKind). u8 (global_kind_code k)) (λ k. Unit {0})
global_kind_laws = byte_laws global_kind_code global_kind_of global_kind_code_is_one

pub local_kind_laws : Laws (decoded Form local_kind_of (number 1)) (λ (k : LocalKind). u8 (local_kind_code k)) (λ k. Unit {0})
local_kind_laws = byte_laws local_kind_code local_kind_of local_kind_code_is_one

pub ambient_laws : Laws (decoded Form ambient_of (number 1)) (λ (k : Ambient). u8 (ambient_code k)) (λ k. Unit {0})
ambient_laws = byte_laws ambient_code ambient_of ambient_code_is_one

pub gift_laws : Laws (decoded Form gift_of (number 1)) (λ (k : Gift). u8 (gift_code k)) (λ k. Unit {0})
gift_laws = byte_laws gift_code gift_of gift_code_is_one

pub event_code_laws : Laws (decoded Form event_code_of (number 1)) (λ (k : EventCode). u8 (event_code k)) (λ k. Unit {0})
event_code_laws = byte_laws event_code event_code_of event_code_is_one

pub op_laws : Laws (decoded Form op_of (number 1)) (λ (o : Op). u8 (op_code o)) (λ o. Unit {0})
op_laws = byte_laws op_code op_of op_code_is_one

pub version_laws : Laws (decoded Header version_of (number 2)) (λ (v : Version). u16 (version_code v)) (λ v. Unit {0})
version_laws = decoded_laws Header version_of version_code (number_laws 2) (λ x. (version_code_is_one x).there) (λ n x e. (version_code_is_one x).back n e) (λ x. omega (arith, (version_code_is_one x).small))
