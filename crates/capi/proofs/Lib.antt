-- answers that are equal, in what they leave in lent memory
pub mod ExportLaws
