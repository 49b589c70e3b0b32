pub mod CertificateFileLaws
pub mod OneCertificate
